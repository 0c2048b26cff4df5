-- One thing for each machine, with another at m
use Rattle.std.proofs.Common.{◌≡◌, List, [], ◌++◌, refl, sym, subst, append-nil}
use Rattle.std.specs.Prelude.{if◌then◌else◌}
use Rattle.cell_types.specs.declared.words.Machine.{Machine}
use Rattle.cell_types.specs.declared.words.Machine.TheVariants as machine
use Rattle.cell_types.specs.Same.{same_machine}
use Rattle.cell_turns.specs.declared.six.Six.{Six}
use Rattle.cell_turns.specs.Six.{at, put, map_six}

pub put_at : {T : Type 0} (s : Six T) (m : Machine) → put s m (at s m) ≡ s
put_at s machine.Feed = refl
put_at s machine.Table = refl
put_at s machine.Robot = refl
put_at s machine.Press1 = refl
put_at s machine.Press2 = refl
put_at s machine.Deposit = refl

pub map_put : {A B : Type 0} (f : A → B) (s : Six A) (m : Machine) (w : A)
    → map_six f (put s m w) ≡ put (map_six f s) m (f w)
map_put f s machine.Feed w = refl
map_put f s machine.Table w = refl
map_put f s machine.Robot w = refl
map_put f s machine.Press1 w = refl
map_put f s machine.Press2 w = refl
map_put f s machine.Deposit w = refl

pub map_at : {A B : Type 0} (f : A → B) (s : Six A) (m : Machine) → f (at s m) ≡ at (map_six f s) m
map_at f s machine.Feed = refl
map_at f s machine.Table = refl
map_at f s machine.Robot = refl
map_at f s machine.Press1 = refl
map_at f s machine.Press2 = refl
map_at f s machine.Deposit = refl

-- what holds of each machine's three things holds with others at m
pub all_put : {A B C : Type 0} (Q : Machine → A → B → C → Type 0) (m : Machine) (a : Six A) (b : Six B) (c : Six C)
    (x : A) (y : B) (z : C)
    → ((n : Machine) → Q n (at a n) (at b n) (at c n)) → Q m x y z → (n : Machine)
    → Q n (at (put a m x) n) (at (put b m y) n) (at (put c m z) n)
all_put Q machine.Feed a b c x y z h q machine.Feed = q
all_put Q machine.Feed a b c x y z h q n = h n
all_put Q machine.Table a b c x y z h q machine.Table = q
all_put Q machine.Table a b c x y z h q n = h n
all_put Q machine.Robot a b c x y z h q machine.Robot = q
all_put Q machine.Robot a b c x y z h q n = h n
all_put Q machine.Press1 a b c x y z h q machine.Press1 = q
all_put Q machine.Press1 a b c x y z h q n = h n
all_put Q machine.Press2 a b c x y z h q machine.Press2 = q
all_put Q machine.Press2 a b c x y z h q n = h n
all_put Q machine.Deposit a b c x y z h q machine.Deposit = q
all_put Q machine.Deposit a b c x y z h q n = h n

-- one machine's list grows, and no other
pub put_more : {X : Type 0} (s : Six (List X)) (m n : Machine) (more : List X)
    → at (put s m (at s m ++ more)) n ≡ at s n ++ (if same_machine n m then more else [])
put_more s machine.Feed machine.Feed more = refl
put_more s machine.Feed n more = sym (append-nil (at s n))
put_more s machine.Table machine.Table more = refl
put_more s machine.Table n more = sym (append-nil (at s n))
put_more s machine.Robot machine.Robot more = refl
put_more s machine.Robot n more = sym (append-nil (at s n))
put_more s machine.Press1 machine.Press1 more = refl
put_more s machine.Press1 n more = sym (append-nil (at s n))
put_more s machine.Press2 machine.Press2 more = refl
put_more s machine.Press2 n more = sym (append-nil (at s n))
put_more s machine.Deposit machine.Deposit more = refl
put_more s machine.Deposit n more = sym (append-nil (at s n))

-- as the code has them, picked out
pub all_picked : {A B C : Type 0} (Q : Machine → A → B → C → Type 0) (m : Machine) (a : Six A) (b : Six B) (c : Six C)
    (x : A) (y : B) (z : C)
    → x ≡ at a m → y ≡ at b m → z ≡ at c m → ((n : Machine) → Q n (at a n) (at b n) (at c n)) → Q m x y z
all_picked Q m a b c x y z e f g h = subst (λ u. Q m u y z) (sym e)
    (subst (λ u. Q m (at a m) u z) (sym f) (subst (λ u. Q m (at a m) (at b m) u) (sym g) (h m)))

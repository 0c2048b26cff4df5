-- All six are idle, or the first that isn't is found
use Rattle.std.proofs.Common.{◌≡◌, ◌∙◌, Bool, true, false, refl, sym}
use Rattle.std.specs.Prelude.{◌&&◌}
use Rattle.cell_types.specs.declared.words.Machine.TheVariants as machine
use Rattle.cell_turns.specs.Six.{at}
use Rattle.cell_rounds.proofs.turning.are_idle.Goals as goal

-- one is idle, so that it's the others that say
on : (r a x : Bool) → a ≡ true → r ≡ x → r ≡ (a && x)
on r a x is others = rw is others

-- one isn't, and the others aren't asked
off : (r a x : Bool) → r ≡ false → r ≡ a → r ≡ (a && x)
off r a x is same = rw (sym same, is) refl

pub returns-else-is_idle : goal.returns-else-is_idle
returns-else-is_idle c = λ minds fits.
    (off _ _ _ c.if-is_idle.false (c.is_idle.ensures (at minds machine.Feed) (fits.each machine.Feed)))

pub returns-else-is_idle-2 : goal.returns-else-is_idle-2
returns-else-is_idle-2 c = λ minds fits.
    (on _ _ _ (sym (c.is_idle.ensures (at minds machine.Feed) (fits.each machine.Feed)) ∙ c.if-is_idle.true)
    (off _ _ _ c.if-is_idle-2.false (c.is_idle-then-is_idle.ensures (at minds machine.Table)
    (fits.each machine.Table))))

pub returns-else-is_idle-3 : goal.returns-else-is_idle-3
returns-else-is_idle-3 c = λ minds fits.
    (on _ _ _ (sym (c.is_idle.ensures (at minds machine.Feed) (fits.each machine.Feed)) ∙ c.if-is_idle.true)
    (on _ _ _ (sym (c.is_idle-then-is_idle.ensures (at minds machine.Table) (fits.each machine.Table))
    ∙ c.if-is_idle-2.true)
    (off _ _ _ c.if-is_idle-3.false (c.is_idle-then-is_idle-2.ensures (at minds machine.Robot)
    (fits.each machine.Robot)))))

pub returns-else-is_idle-4 : goal.returns-else-is_idle-4
returns-else-is_idle-4 c = λ minds fits.
    (on _ _ _ (sym (c.is_idle.ensures (at minds machine.Feed) (fits.each machine.Feed)) ∙ c.if-is_idle.true)
    (on _ _ _ (sym (c.is_idle-then-is_idle.ensures (at minds machine.Table) (fits.each machine.Table))
    ∙ c.if-is_idle-2.true)
    (on _ _ _ (sym (c.is_idle-then-is_idle-2.ensures (at minds machine.Robot) (fits.each machine.Robot))
    ∙ c.if-is_idle-3.true)
    (off _ _ _ c.if-is_idle-4.false (c.is_idle-then-is_idle-3.ensures (at minds machine.Press1)
    (fits.each machine.Press1))))))

pub returns-else-is_idle-5 : goal.returns-else-is_idle-5
returns-else-is_idle-5 c = λ minds fits.
    (on _ _ _ (sym (c.is_idle.ensures (at minds machine.Feed) (fits.each machine.Feed)) ∙ c.if-is_idle.true)
    (on _ _ _ (sym (c.is_idle-then-is_idle.ensures (at minds machine.Table) (fits.each machine.Table))
    ∙ c.if-is_idle-2.true)
    (on _ _ _ (sym (c.is_idle-then-is_idle-2.ensures (at minds machine.Robot) (fits.each machine.Robot))
    ∙ c.if-is_idle-3.true)
    (on _ _ _ (sym (c.is_idle-then-is_idle-3.ensures (at minds machine.Press1) (fits.each machine.Press1))
    ∙ c.if-is_idle-4.true)
    (off _ _ _ c.if-is_idle-5.false (c.is_idle-then-is_idle-4.ensures (at minds machine.Press2)
    (fits.each machine.Press2)))))))

pub returns-then-is_idle-5 : goal.returns-then-is_idle-5
returns-then-is_idle-5 c = λ minds fits.
    (on _ _ _ (sym (c.is_idle.ensures (at minds machine.Feed) (fits.each machine.Feed)) ∙ c.if-is_idle.true)
    (on _ _ _ (sym (c.is_idle-then-is_idle.ensures (at minds machine.Table) (fits.each machine.Table))
    ∙ c.if-is_idle-2.true)
    (on _ _ _ (sym (c.is_idle-then-is_idle-2.ensures (at minds machine.Robot) (fits.each machine.Robot))
    ∙ c.if-is_idle-3.true)
    (on _ _ _ (sym (c.is_idle-then-is_idle-3.ensures (at minds machine.Press1) (fits.each machine.Press1))
    ∙ c.if-is_idle-4.true)
    (on _ _ _ (sym (c.is_idle-then-is_idle-4.ensures (at minds machine.Press2) (fits.each machine.Press2))
    ∙ c.if-is_idle-5.true)
    (c.is_idle-then-is_idle-5.ensures (at minds machine.Deposit) (fits.each machine.Deposit)))))))

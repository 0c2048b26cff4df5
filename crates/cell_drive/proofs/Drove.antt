-- What a run by entries has written
use Rattle.std.proofs.Common.{◌≡◌, ◌∙◌, ◌<◌, ℕ, List, ◌++◌, Bool, true, Option, Result, Ok, Err}
use Rattle.std.proofs.Common.{IfOk, OnOk, subst}
use Rattle.std.specs.Io.KnownBytes.{Appends}
use Rattle.std.proofs.KnownBytes.{Appends-trans}
use Rattle.std.proofs.lemmas.Result.{IfOk-at_ok}
use Rattle.cell_types.specs.declared.words.Entry.{Entry}
use Rattle.cell_rules.specs.declared.limits.BookLimits.{BookLimits}
use Rattle.cell_rules.specs.Legal.{legal}
use Rattle.cell_ports.specs.declared.plan.Plan.{Plan}
use Rattle.cell_turns.specs.declared.six.Six.{Six}
use Rattle.cell_ports.specs.Logs.{Log}
use Rattle.operator_desk.specs.declared.line.Line.{Line}
use Rattle.cell_method.specs.Lines.{Row}
use Rattle.cell_method.specs.Order.{between}
use Rattle.cell_method.specs.Rounds.{Driven, Leads, Stand, entry_lines}
use Rattle.cell_method.specs.declared.rounds.DriveEnd.{DriveEnd}
use Rattle.cell_runs.specs.Runs.{limits_of}
use Rattle.cell_drive.specs.Drives.{DrivesEntries, EndStatus, TellsEnd, drive_line, opening}

-- what holds of an answer's value
pub of-ok : {A B : Type 0} (Q : A → Type 0) (r : Result A B) (a : A) → r ≡ Ok a → IfOk r Q → Q a
of-ok Q r a same q = IfOk-at_ok Q same q

-- what holds of a run with a status below 3, where that is the status of its call
pub of-status : {E : Type 0} (D : ℕ → Type 0) (r : Result ℕ E) (status : ℕ) → (status < 3 → r ≡ Ok status)
    → IfOk r (λ s. s < 3 → D s) → status < 3 → D status
of-status D r status same h few = IfOk-at_ok (λ s. s < 3 → D s) (same few) h few

-- what follows from what was told, from the status and from one below 3, of a run that was told
pub of-told : {E T Q : Type 0} {S D : ℕ → Type 0} (r : Result ℕ E) → OnOk r T → IfOk r S → IfOk r (λ s. s < 3 → Q)
    → ((s : ℕ) → T → S s → Q → D s) → IfOk r (λ s. s < 3 → D s)
of-told (Ok s) told status few go = λ h. go s told status (few h)
of-told (Err e) told status few go = tt

-- a run that was driven from the opening, between the first line with the entries before it and what is told of it
pub drove : {P : Type 0} (tells : P → Bool) (log : P → Log) (plan : Plan) (script : List Line) (J : List Entry)
    (s : Stand)
    (l k : BookLimits) (all left : Option (List (Option Row))) (K : List Entry) (ports : Six P)
    (H : Stand → Type 0) (w x v y z : Option (List ℕ)) (ended : DriveEnd) (status : ℕ)
    → s ≡ opening J script → l ≡ limits_of plan → k ≡ l → legal k K ≡ true → Appends w x (drive_line plan)
    → Appends x v (entry_lines J) → Driven tells log plan l s all left ended K ports H v y
    → ((text : List ℕ) × TellsEnd ended K text × Appends y z text) → EndStatus ended status
    → DrivesEntries plan script J all w z status
drove tells log plan script J s l k all left K ports H w x v y z ended status start limits same h first entries d
    (told, shows, last) is =
    record {
      after = d.after;
      left = left;
      to = d.to;
      leads = subst (λ m. Leads m (opening J script) d.after between d.to all left) limits
          (subst (λ t. Leads l t d.after between d.to all left) start d.leads);
      legal = subst (λ m. legal m d.after.journal ≡ true) (same ∙ limits)
          (subst (λ J. legal k J ≡ true) d.fits.journal h);
      ended = ended;
      ends = d.ends;
      with_status = is;
      told = told;
      tells = subst (λ J. TellsEnd ended J told) d.fits.journal shows;
      text = Appends-trans w x z (drive_line plan) (entry_lines J ++ (d.after.text ++ told)) first
          (Appends-trans x v z (entry_lines J) (d.after.text ++ told) entries
          (Appends-trans v y z d.after.text told d.text last));
    }

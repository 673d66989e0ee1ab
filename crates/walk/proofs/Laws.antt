-- What callers cite of a walk: what its answer tells, and what the exit of a `?` returns.
-- Assumes nothing.
use Rattle.std.specs.Prelude.{Result, Ok, Err, IsErrAnd}
use Rattle.std.proofs.lemmas.Result.{err_from_is_err_and}
use mathlib.Core.Path.{◌≡◌, refl, ap, subst, ◌∙◌}
use mathlib.Core.List.{List}
use Prim.Native.Nat.{ℕ, ◌≤◌}
use lib.ListN.{length, take}
use Rattle.answer.specs.declared.refusal.Fault.{Fault}
use Rattle.walk.specs.Walk.{Stand, Outcome, went, stopped, steps}
use Rattle.walk.specs.Steps.{Walked, Gave, gave, refused}

-- what the exit of a `?` returns
pub exit : {T E : Type 0} {r : Result T E} {e : E} → IsErrAnd r (λ y. y ≡ e) → r ≡ Err e
exit {r = r} h = let p = err_from_is_err_and r h in p.1 ∙ ap Err p.2

-- a walk that went to its end, with so many offsets in a list
pub record Went (list : List ℕ) (o : Outcome) (to given : ℕ) : Type 0 where
  pub stand : Stand
  pub whole : o ≡ went stand
  pub end : to ≡ stand.at
  pub count : given ≡ length stand.given
  pub few : given ≤ steps
  pub front : take given list ≡ stand.given

went_told : {list : List ℕ} {o : Outcome} {to given : ℕ} → Gave list o (Ok (to, given)) → Went list o to given
went_told (gave {h = h} l t) = record { stand = h; whole = refl; end = refl; count = refl; few = l; front = t }

stopped_told : {list : List ℕ} {o : Outcome} {f : Fault} → Gave list o (Err f) → o ≡ stopped f.why f.at
stopped_told refused = refl

pub gave_went : {list : List ℕ} {o : Outcome} {r : Walked} {to given : ℕ} → r ≡ Ok (to, given) → Gave list o r → Went list o to given
gave_went {list} {o} e g = went_told (subst (λ (x : Walked). Gave list o x) e g)

pub gave_stopped : {list : List ℕ} {o : Outcome} {r : Walked} {f : Fault} → r ≡ Err f → Gave list o r → o ≡ stopped f.why f.at
gave_stopped {list} {o} e g = stopped_told (subst (λ (x : Walked). Gave list o x) e g)

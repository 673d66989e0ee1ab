-- THE LETTER: a text is refused by a number of its own; one that is refused by 7 has a string that does not keep its rule for names, and the refusal stands where the string breaks it.
-- Assumes nothing.
use mathlib.Core.Path.{◌≡◌, refl, sym, subst}
use mathlib.Core.Bool.{Bool, true, false, cond}
use mathlib.Core.List.{List, [], ◌∷◌}
use mathlib.Core.Logic.{⊎_elim}
use Prim.Native.Nat.{ℕ, suc}
use lib.Dec.{ltb}
use lib.ListN.{length}
use Rattle.std.specs.Prelude.{Ok, Err}
use Rattle.answer.specs.declared.refusal.Why.{Why}
use Rattle.answer.specs.declared.refusal.Why.TheVariants.{TextTooLong, NotJson, NestedTooDeep, NotAName}
use Rattle.answer.specs.declared.refusal.Fault.{Fault}
use Rattle.answer.specs.Numbers.{number_of}
use Rattle.json_scan.specs.Json.{Mode, Stack, Move, go, die, step, whole, onward, run, verdict, scanned, longest, Verdict}
use Rattle.json_scan.specs.Json as json
use Rattle.json_scan.proofs.Depth.{Begins, Sane, step_sane}
use Rattle.form.specs.Checks.{fault}
use Rattle.form.specs.Forms.{most_nested}
use Rattle.schema.specs.Out.{refused}
use Rattle.schema.specs.Schema.{within, rows_of, on_scan, declared}
use Rattle.view.specs.Values.{value_start}
use Rattle.told.specs.Told.{is_own, Told}
use Rattle.told.proofs.Fair.{Fair, other, FairOut}
pub use Rattle.told.proofs.Fair.{lettered, not_seven}
use Rattle.told.proofs.Rows.{schema_fair}

-- ---- the scan gives 1, 2 and 3
module _ (t : List ℕ) where
  abbrev FairScan : Verdict → Type 0
  FairScan (Ok u) = Unit {0}
  FairScan (Err f) = Fair t f

  by_reason : (w v : Why) (p : ℕ) → w ≡ v → Fair t (fault v p) → Fair t (fault w p)
  by_reason w v p e g = subst (λ (x : Why). Fair t (fault x p)) (sym e) g

  run_fair : (s : List ℕ) (m : Mode) (k : Stack) (p : ℕ) → FairScan (run m k p s)
  unfolding run
  run_fair [] m k p = end (whole m k)
    where
      end : (b : Bool) → FairScan (cond b (Ok tt) (json.fault NotJson p))
      end true = tt
      end false = other t NotJson p refl
  run_fair (b ∷ bs) m k p = on (step m b k) (step_sane b k m) (λ m' k'. run_fair bs m' k' (suc p))
    where
      on : (x : Move) → Sane (Begins m) b k x → ((m' : Mode) (k' : Stack) → FairScan (run m' k' (suc p) bs)) → FairScan (onward x p (λ m' k'. run m' k' (suc p) bs))
      on (go m' k') s r = r m' k'
      on (die w) s r = ⊎_elim (λ e. by_reason w NotJson p e (other t NotJson p refl)) (λ e. by_reason w NestedTooDeep p e.0 (other t NestedTooDeep p refl)) s

  scan_fair : FairScan (scanned t)
  unfolding scanned verdict
  scan_fair = pick (ltb longest (length t))
    where
      pick : (b : Bool) → FairScan (cond b (json.fault TextTooLong longest) (run json.val [] 0 t))
      pick true = other t TextTooLong longest refl
      pick false = run_fair t json.val [] 0

  declared_fair : FairOut t (declared t)
  unfolding declared rows_of
  declared_fair = on (scanned t) scan_fair
    where
      on : (s : Verdict) → FairScan s → FairOut t (on_scan s (rows_of t))
      on (Ok u) g = schema_fair t most_nested (within []) 0 (value_start t)
      on (Err f) g = g

-- whatever the text
pub own : (t : List ℕ) (f : Fault) → declared t ≡ refused f → is_own (number_of f.why) ≡ true
own t f e = (subst (FairOut t) e (declared_fair t)).0

pub told : (t : List ℕ) (f : Fault) → declared t ≡ refused f → f.why ≡ NotAName → Told t f.at
told t f e = (subst (FairOut t) e (declared_fair t)).1

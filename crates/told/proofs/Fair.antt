-- Faults that have a text's own number and, where it is 7, tell where a string breaks its rule; and what is made of them.
-- Assumes nothing.
use Rattle.std.specs.Prelude.{Option, Some, None, Ok, Err}
use mathlib.Core.Path.{◌≡◌, refl, sym, ap, ◌∙◌}
use mathlib.Core.Bool.{Bool, true, false, not, cond, ◌&&◌}
use mathlib.Core.List.{List, [], ◌∷◌}
use Prim.Native.Nat.{ℕ}
use lib.Dec.{eqb}
use borrow.Author.Tests.{not-true}
use Rattle.answer.specs.declared.refusal.Why.{Why}
use Rattle.answer.specs.declared.refusal.Why.TheVariants.{NotAName}
use Rattle.answer.specs.declared.refusal.Fault.{Fault}
use Rattle.answer.specs.Numbers.{number_of}
use Rattle.ground.specs.Bytes.{byte_at}
use Rattle.ground.proofs.Laws.{never, and_true}
use Rattle.name.proofs.Begin.{Lettered, simple_lettered, name_lettered, namespace_lettered}
use Rattle.row.specs.Rows.{Row}
use Rattle.view.specs.Strings.{string_at}
use Rattle.view.proofs.Laws.{All}
use Rattle.breach.proofs.Theorems.{breaks}
use Rattle.form.specs.Checks.{fault, must, ◌then◌, Check}
use Rattle.form.specs.Spots.{on_spot}
use Rattle.form.specs.Names.{not_a_name}
use Rattle.schema.specs.Out.{Out, refused, read, rows_then, and_then, after, each}
use Rattle.told.specs.Told.{Rule, simple, name, namespace, keeps_of, is_own, Told}

pub lettered : (r : Rule) → Lettered (keeps_of r)
lettered simple = simple_lettered
lettered name = name_lettered
lettered namespace = namespace_lettered

-- another number is not 7
pub not_seven : {A : Type 0} (w : Why) → eqb (number_of w) 7 ≡ false → w ≡ NotAName → A
not_seven w e h = never (sym e ∙ ap (λ (x : Why). eqb (number_of x) 7) h)

module _ (t : List ℕ) where
  abbrev pub Fair : Fault → Type 0
  Fair f = (is_own (number_of f.why) ≡ true) × (f.why ≡ NotAName → Told t f.at)

  -- ---- a fault with another number than 7
  pub other : (w : Why) (q : ℕ) → (is_own (number_of w) && not (eqb (number_of w) 7)) ≡ true → Fair (fault w q)
  other w q e =
      let z = and_true (is_own (number_of w)) (not (eqb (number_of w) 7)) e in
      (z.0, not_seven w (not-true (eqb (number_of w) 7) z.1))

  -- ---- checks
  abbrev pub FairCheck : Check → Type 0
  FairCheck (Ok tt) = Unit {0}
  FairCheck (Err f) = Fair f

  pub must_fair : (b : Bool) (f : Fault) → (b ≡ false → Fair f) → FairCheck (must b f)
  must_fair true f h = tt
  must_fair false f h = h refl

  pub must_other : (b : Bool) (w : Why) (q : ℕ) → (is_own (number_of w) && not (eqb (number_of w) 7)) ≡ true → FairCheck (must b (fault w q))
  must_other b w q e = must_fair b (fault w q) (λ _. other w q e)

  -- 7, for the string at q
  pub rule_fair : (r : Rule) (q : ℕ) → byte_at t q ≡ 34 → FairCheck (must (keeps_of r (string_at t q)) (not_a_name (keeps_of r) t q))
  rule_fair r q o =
      must_fair (keeps_of r (string_at t q)) (not_a_name (keeps_of r) t q)
      (λ e. (refl, λ h. record { rule = r; quote = q; opens = o; fails = e; breaks = breaks (lettered r) t q o e }))

  pub then_fair : (a b : Check) → FairCheck a → (a ≡ Ok tt → FairCheck b) → FairCheck (a then b)
  then_fair (Ok tt) b f g = g refl
  then_fair (Err x) b f g = f

  -- ---- what reading gives
  abbrev pub FairOut : Out → Type 0
  FairOut (refused f) = Fair f
  FairOut (read rows) = Unit {0}

  pub after_fair : (c : Check) (o : Out) → FairCheck c → FairOut o → FairOut (after c o)
  after_fair (Ok tt) o f g = g
  after_fair (Err x) o f g = f

  pub rows_fair : (rs : List Row) (o : Out) → FairOut o → FairOut (rows_then rs o)
  rows_fair rs (refused f) g = g
  rows_fair rs (read more) g = tt

  pub and_fair : (a b : Out) → FairOut a → FairOut b → FairOut (and_then a b)
  and_fair (refused f) b g h = g
  and_fair (read rs) b g h = rows_fair rs b h

  pub each_fair : (P : ℕ → Type 0) (reads : ℕ → Out) → ((q : ℕ) → P q → FairOut (reads q)) → (qs : List ℕ) → All P qs → FairOut (each reads qs)
  unfolding each
  each_fair P reads h [] a = tt
  each_fair P reads h (q ∷ qs) a = and_fair (reads q) (each reads qs) (h q a.0) (each_fair P reads h qs a.1)

  pub spot_fair : (s : Option ℕ) (f : ℕ → Out) (none : Out) → ((q : ℕ) → s ≡ Some q → FairOut (f q)) → FairOut none → FairOut (on_spot s f none)
  spot_fair (Some q) f none h g = h q refl
  spot_fair None f none h g = g

  pub cond_fair : (b : Bool) (x y : Out) → FairOut x → FairOut y → FairOut (cond b x y)
  cond_fair true x y f g = f
  cond_fair false x y f g = g

-- What may join a set: the tests 22 to 26 and 47 against what they mean.
-- Assumes nothing.
use mathlib.Core.Path.{◌≡◌, refl, sym, ap, subst, ◌∙◌}
use mathlib.Core.Bool.{Bool, true, false, not, cond, ◌&&◌, ◌||◌}
use mathlib.Core.List.{List, [], ◌∷◌, ◌++◌, append_assoc, append-nil}
use Prim.Native.Nat.{ℕ, ◌+◌}
use native.Mathlib.Omega.{arith}
use lib.Dec.{ltb}
use lib.ListN.{length}
use borrow.Author.Tests.{le-ltb, ltb-true, ltb-false}
use Rattle.std.specs.Prelude.{Ok, Err}
use Rattle.answer.specs.Places.{placed}
use Rattle.answer.specs.declared.refusal.Why.{Why}
use Rattle.answer.specs.declared.refusal.Why.TheVariants.{TooManyRows, TooManyStringBytes, DefinedAlready, ReferenceUnknown, DefaultDoesNotFit}
use Rattle.answer.specs.declared.refusal.Fault.{Fault}
use Rattle.answer.specs.declared.refusal.Refusal.{Refusal}
use Rattle.ground.specs.Bytes.{same}
use Rattle.ground.proofs.Laws.{never, and_true, same_true, same_refl}
use Rattle.row.specs.Layout.{row_limit, string_limit}
use Rattle.row.specs.Rows.{Row, texts}
use Rattle.row.specs.Sets.{flat}
use Rattle.row.specs.declared.kind.Kind.TheVariants.{Reference}
use Rattle.resolve.specs.Kinds.{is_kind, is_definition}
use Rattle.resolve.specs.Rules.{some}
use Rattle.resolve.specs.Resolve.{Resolution, defines, is_defined, faulty, fault_of, or_else, fault_in}
use Rattle.fits.specs.Misfits.{default_fits, misfit, misfit_in}
use Rattle.set.specs.Lists.{becomes, refuses, refuse, on_resolved, append, put_in}
use Rattle.demands.specs.Building.{Defines, here, later, Clean, EachFits, Joins, Broken, twice, unknown, FirstBroken, FirstMisfit, this, further, Barred, many_rows, many_bytes, bad_name, bad_default}
use Rattle.demands.proofs.Steps.{not_both, append_done, last_is, last_done}

-- ---- what is defined

pub defined_yes : (rows : List Row) (name : List ℕ) → is_defined rows name ≡ true → Defines rows name
unfolding is_defined some defines
defined_yes [] name e = never e
defined_yes (r ∷ rows) name e = go (is_definition r.kind && same r.text name) refl (defined_yes rows name) e
  where
    go : (b : Bool) → (is_definition r.kind && same r.text name) ≡ b → (is_defined rows name ≡ true → Defines rows name) → (b || is_defined rows name) ≡ true → Defines (r ∷ rows) name
    go true p more f = let h = and_true (is_definition r.kind) (same r.text name) p in here h.0 (same_true r.text name h.1)
    go false p more f = later (more f)

pub yes_defined : {rows : List Row} {name : List ℕ} → Defines rows name → is_defined rows name ≡ true
unfolding is_defined some defines
yes_defined (here {r} {rows} {name} p q) = rw (p, q, same_refl name)
yes_defined (later {r} {rows} {name} d) = rw (yes_defined d) (or_true (defines name r))
  where
    or_true : (b : Bool) → (b || true) ≡ true
    or_true true = refl
    or_true false = refl

pub defined_no : (rows : List Row) (name : List ℕ) → is_defined rows name ≡ false → Defines rows name → ⊥
defined_no rows name e d = never (sym e ∙ yes_defined d)

-- ---- 25 and 26 of one row

record Passes (earlier : List Row) (r : Row) : Type 0 where
  new : is_definition r.kind ≡ true → Defines earlier r.text → ⊥
  known : is_kind Reference r.kind ≡ true → Defines earlier r.text

row_passes : (earlier : List Row) (r : Row) → fault_of earlier r ≡ Ok tt → Passes earlier r
unfolding fault_of
row_passes earlier r e = go (is_definition r.kind) (is_kind Reference r.kind) (is_defined earlier r.text) refl refl refl e
  where
    no : {A : Type 0} {f : Fault} → ◌≡◌ {A = Resolution} (Err f) (Ok tt) → A
    no z = let y : ◌≡◌ {A = ℕ} 0 1 = cc in absurd (omega arith)

    go : (a b d : Bool) → is_definition r.kind ≡ a → is_kind Reference r.kind ≡ b → is_defined earlier r.text ≡ d
        → cond (a && d) (faulty DefinedAlready r) (cond (b && not d) (faulty ReferenceUnknown r) (Ok tt)) ≡ Ok tt → Passes earlier r
    go true b true p q z f = no f
    go true b false p q z f = last b q f
      where
        last : (b : Bool) → is_kind Reference r.kind ≡ b → cond (b && true) (faulty ReferenceUnknown r) (Ok tt) ≡ Ok tt → Passes earlier r
        last true w g = no g
        last false w g = record { new = λ h. defined_no earlier r.text z; known = λ h. never (sym w ∙ h) }
    go false true true p q z f = record { new = λ h. never (sym p ∙ h); known = λ h. defined_yes earlier r.text z }
    go false true false p q z f = no f
    go false false d p q z f = record { new = λ h. never (sym p ∙ h); known = λ h. never (sym q ∙ h) }

passes_row : (earlier : List Row) (r : Row) → Passes earlier r → fault_of earlier r ≡ Ok tt
unfolding fault_of
passes_row earlier r h = go (is_definition r.kind) (is_kind Reference r.kind) (is_defined earlier r.text) refl refl refl
  where
    go : (a b d : Bool) → is_definition r.kind ≡ a → is_kind Reference r.kind ≡ b → is_defined earlier r.text ≡ d
        → cond (a && d) (faulty DefinedAlready r) (cond (b && not d) (faulty ReferenceUnknown r) (Ok tt)) ≡ Ok tt
    go true b true p q z = absurd (h.new p (defined_yes earlier r.text z))
    go true true false p q z = absurd (defined_no earlier r.text z (h.known q))
    go true false false p q z = refl
    go false true true p q z = refl
    go false true false p q z = absurd (defined_no earlier r.text z (h.known q))
    go false false d p q z = refl

row_broken : (earlier : List Row) (r : Row) (f : Fault) → fault_of earlier r ≡ Err f → Broken earlier r f.why × (f.at ≡ r.position)
unfolding fault_of
row_broken earlier r f e = go (is_definition r.kind) (is_kind Reference r.kind) (is_defined earlier r.text) refl refl refl e
  where
    is : {w : Why} → faulty w r ≡ Err f → Broken earlier r w → Broken earlier r f.why × (f.at ≡ r.position)
    is {w} z b = let y : record { why = w; at = r.position } ≡ f = cc in rw (← y) (b, refl)

    no : {A : Type 0} → ◌≡◌ {A = Resolution} (Ok tt) (Err f) → A
    no z = let y : ◌≡◌ {A = ℕ} 0 1 = cc in absurd (omega arith)

    go : (a b d : Bool) → is_definition r.kind ≡ a → is_kind Reference r.kind ≡ b → is_defined earlier r.text ≡ d
        → cond (a && d) (faulty DefinedAlready r) (cond (b && not d) (faulty ReferenceUnknown r) (Ok tt)) ≡ Err f → Broken earlier r f.why × (f.at ≡ r.position)
    go true b true p q z g = is g (twice p (defined_yes earlier r.text z))
    go true true false p q z g = is g (unknown q (defined_no earlier r.text z))
    go true false false p q z g = no g
    go false true true p q z g = no g
    go false true false p q z g = is g (unknown q (defined_no earlier r.text z))
    go false false d p q z g = no g

-- ---- of many

pub resolved_clean : (earlier rows : List Row) → fault_in earlier rows ≡ Ok tt → Clean earlier rows
unfolding fault_in Clean
resolved_clean earlier [] e = tt
resolved_clean earlier (r ∷ rows) e = go (fault_of earlier r) refl (resolved_clean (earlier ++ (r ∷ [])) rows) e
  where
    go : (x : Resolution) → fault_of earlier r ≡ x → (fault_in (earlier ++ (r ∷ [])) rows ≡ Ok tt → Clean (earlier ++ (r ∷ [])) rows) → or_else x (fault_in (earlier ++ (r ∷ [])) rows) ≡ Ok tt → Clean earlier (r ∷ rows)
    go (Ok _) p more f = let h = row_passes earlier r p in (h.new, h.known, more f)
    go (Err g) p more f = let y : ◌≡◌ {A = ℕ} 0 1 = cc in absurd (omega arith)

pub clean_resolved : (earlier rows : List Row) → Clean earlier rows → fault_in earlier rows ≡ Ok tt
unfolding fault_in Clean
clean_resolved earlier [] c = refl
clean_resolved earlier (r ∷ rows) c = rw (passes_row earlier r (record { new = c.0; known = c.1 })) (clean_resolved (earlier ++ (r ∷ [])) rows c.2)

pub faulty_first : (earlier rows : List Row) (f : Fault) → fault_in earlier rows ≡ Err f → FirstBroken earlier rows f
unfolding fault_in Clean
faulty_first earlier [] f e = let y : ◌≡◌ {A = ℕ} 0 1 = cc in absurd (omega arith)
faulty_first earlier (r ∷ rows) f e = go (fault_of earlier r) refl (faulty_first (earlier ++ (r ∷ [])) rows f) e
  where
    go : (x : Resolution) → fault_of earlier r ≡ x → (fault_in (earlier ++ (r ∷ [])) rows ≡ Err f → FirstBroken (earlier ++ (r ∷ [])) rows f) → or_else x (fault_in (earlier ++ (r ∷ [])) rows) ≡ Err f
        → FirstBroken earlier (r ∷ rows) f
    go (Ok _) p more q =
        let h = row_passes earlier r p in
        let z = more q in
        record {
          before = r ∷ z.before;
          row = z.row;
          rest = z.rest;
          is = ap (λ (x : List Row). r ∷ x) z.is;
          clean = (h.new, h.known, z.clean);
          broken = rw (← append_assoc earlier (r ∷ []) z.before) z.broken;
          position = z.position;
        }
    go (Err g) p more q =
        let w = row_broken earlier r f (p ∙ q) in
        record { before = []; row = r; rest = rows; is = refl; clean = tt; broken = rw (append-nil earlier) w.0; position = w.1 }

-- ---- 47

pub resolved_fits : (all rows : List Row) → misfit_in all rows ≡ Ok tt → EachFits all rows
unfolding misfit_in EachFits
resolved_fits all [] e = tt
resolved_fits all (r ∷ rest) e = go (default_fits all r rest) refl (resolved_fits all rest) e
  where
    go : (b : Bool) → default_fits all r rest ≡ b → (misfit_in all rest ≡ Ok tt → EachFits all rest) → cond b (misfit_in all rest) (misfit r) ≡ Ok tt → EachFits all (r ∷ rest)
    go true p more f = (p, more f)
    go false p more f = let y : ◌≡◌ {A = ℕ} 0 1 = cc in absurd (omega arith)

pub fits_resolved : (all rows : List Row) → EachFits all rows → misfit_in all rows ≡ Ok tt
unfolding misfit_in EachFits
fits_resolved all [] c = refl
fits_resolved all (r ∷ rest) c = rw c.0 (fits_resolved all rest c.1)

pub misfit_first : (all rows : List Row) (f : Fault) → misfit_in all rows ≡ Err f → FirstMisfit all rows f
unfolding misfit_in
misfit_first all [] f e = let y : ◌≡◌ {A = ℕ} 0 1 = cc in absurd (omega arith)
misfit_first all (r ∷ rest) f e = go (default_fits all r rest) refl (misfit_first all rest f) e
  where
    go : (b : Bool) → default_fits all r rest ≡ b → (misfit_in all rest ≡ Err f → FirstMisfit all rest f) → cond b (misfit_in all rest) (misfit r) ≡ Err f → FirstMisfit all (r ∷ rest) f
    go true p more g = further p (more g)
    go false p more g = let y : record { why = DefaultDoesNotFit; at = r.size } ≡ f = cc in subst (FirstMisfit all (r ∷ rest)) y (this p)

-- ---- one declaration more

pub join_only : (ds : List (List Row)) (t : List ℕ) (d : List (List Row)) → put_in ds (length ds) t ≡ becomes d → (rows : List Row) × Joins ds t rows × (d ≡ ds ++ (rows ∷ []))
join_only ds t d e =
    let a = last_done ds t d e in
    let b = append_done ds a.rows d a.then in
    (a.rows, record { few = a.few; reads = a.reads; fit = b.fit; room = b.room; clean = resolved_clean (flat ds) a.rows b.resolved; fitting = resolved_fits (flat ds ++ a.rows) a.rows b.fitting }, a.is)

pub join_if : (ds : List (List Row)) (t : List ℕ) (rows : List Row) → Joins ds t rows → put_in ds (length ds) t ≡ becomes (ds ++ (rows ∷ []))
unfolding append
join_if ds t rows j = last_is ds t j.few ∙ rw (j.reads, le-ltb row_limit _ j.fit, le-ltb string_limit _ j.room, clean_resolved (flat ds) rows j.clean, fits_resolved (flat ds ++ rows) rows j.fitting)

refused_is : {r s : Refusal} → refuses r ≡ refuses s → r ≡ s
refused_is e = cc

-- why rows were refused
pub append_barred : (ds : List (List Row)) (rows : List Row) (r : Refusal) → append ds rows ≡ refuses r → (f : Fault) × Barred ds rows f × (r ≡ placed f (length ds))
unfolding append
append_barred ds rows r e = go (ltb row_limit (length (flat ds) + length rows)) (ltb string_limit (length (texts (flat ds)) + length (texts rows))) (fault_in (flat ds) rows) (misfit_in (flat ds ++ rows) rows) refl refl refl refl e
  where
    go : (a b : Bool) (x y : Resolution) → ltb row_limit (length (flat ds) + length rows) ≡ a → ltb string_limit (length (texts (flat ds)) + length (texts rows)) ≡ b → fault_in (flat ds) rows ≡ x → misfit_in (flat ds ++ rows) rows ≡ y
        → cond a (refuse TooManyRows (length ds) 0) (cond b (refuse TooManyStringBytes (length ds) 0) (on_resolved x (length ds) (on_resolved y (length ds) (becomes (ds ++ (rows ∷ [])))))) ≡ refuses r
        → (f : Fault) × Barred ds rows f × (r ≡ placed f (length ds))
    go true b x y p q z w f = (record { why = TooManyRows; at = 0 }, many_rows (ltb-true _ _ p), sym (refused_is f))
    go false true x y p q z w f = (record { why = TooManyStringBytes; at = 0 }, many_bytes (ltb-false _ _ p) (ltb-true _ _ q), sym (refused_is f))
    go false false (Ok _) (Ok _) p q z w f = not_both f
    go false false (Ok _) (Err g) p q z w f = (g, bad_default (ltb-false _ _ p) (ltb-false _ _ q) (resolved_clean (flat ds) rows z) (misfit_first (flat ds ++ rows) rows g w), sym (refused_is f))
    go false false (Err g) y p q z w f = (g, bad_name (ltb-false _ _ p) (ltb-false _ _ q) (faulty_first (flat ds) rows g z), sym (refused_is f))

-- What was done, one thing after the other: nothing here knows the format.
-- Assumes nothing.
use Rattle.std.specs.Prelude.{Ok, Err, Result}
use mathlib.Core.Path.{◌≡◌, refl, sym, ap, ◌∙◌, subst}
use mathlib.Core.List.{List, [], ◌∷◌, append-nil, append_assoc}
use Prim.Native.Nat.{ℕ, ◌-◌, ◌≤◌}
use native.Mathlib.Nat.{add-zero}
use native.Mathlib.Omega.{arith}
use lib.ListN.{length, take, drop}
use Rattle.answer.specs.declared.counts.Counts.{Counts}
use Rattle.answer.specs.declared.refusal.Fault.{Fault}
use Rattle.row.specs.Rows.{Row, strings_of}
use Rattle.row.specs.Memory.{counted, pushed, counted_all, pushed_all}
use Rattle.row.proofs.RowLaws.{length_strings}
use Rattle.row.proofs.Laws.{counted_append, pushed_append}
use Rattle.schema.specs.declared.walked.Defined.{Defined}
use Rattle.schema.specs.Out.{Out, refused, read, rows_then, and_then, after, Walked}
use Rattle.schema.specs.Did.{Did, Titled, defined_as}
use Rattle.form.specs.Checks.{Check}

-- ---- the answers at the leaves

pub did_bad : (m m' : List ℕ) (c : Counts) (f : Fault) → Did m c m' (Err f) (refused f)
did_bad m m' c f = record { did = refl }

pub did_none : (m : List ℕ) (c : Counts) → Did m c m (Ok c) (read [])
unfolding counted_all pushed_all
did_none m c = record { did = (refl, refl) }

-- a row without a default is counted by its own string
pub own_string : (w : Row) → w.default ≡ [] → length w.text ≡ length (strings_of w)
own_string w d = sym (length_strings w ∙ rw d (add-zero (length w.text)))

pub did_row : {m m' : List ℕ} {c c' : Counts} (w : Row) → w.default ≡ [] → c' ≡ counted c (length w.text) → m' ≡ pushed m c w → Did m c m' (Ok c') (read (w ∷ []))
unfolding counted_all pushed_all
did_row {c = c} w d e h = record { did = (ap Ok (e ∙ ap (counted c) (own_string w d)), h) }

-- ---- the definition's own equations

pub did_eq : {m m' : List ℕ} {c : Counts} {r : Walked} {o o' : Out} → o ≡ o' → Did m c m' r o' → Did m c m' r o
did_eq {m} {m'} {c} {r} e d = subst (λ (x : Out). Did m c m' r x) (sym e) d

-- ---- rows, and then what was done

did_rows : (m m'' : List ℕ) (c : Counts) (r : Walked) (rows : List Row) (o : Out) → Did (pushed_all m c rows) (counted_all c rows) m'' r o → Did m c m'' r (rows_then rows o)
did_rows m m'' c r rows (refused f) d = record { did = d.did }
did_rows m m'' c r rows (read more) d =
    record { did = (d.did.0 ∙ ap Ok (sym (counted_append c rows more)), d.did.1 ∙ sym (pushed_append m c rows more)) }

-- a row was pushed, and then
pub did_pushed : {m m' m'' : List ℕ} {c c' : Counts} {r : Walked} (w : Row) (o : Out) → c' ≡ counted c (length (strings_of w)) → m' ≡ pushed m c w
    → Did m' c' m'' r o → Did m c m'' r (rows_then (w ∷ []) o)
unfolding counted_all pushed_all
did_pushed {m} {m'} {m''} {c} {c'} {r} w o e h d =
    did_rows m m'' c r (w ∷ []) o
    (subst (λ (x : List ℕ). Did x (counted c (length (strings_of w))) m'' r o) h (subst (λ (x : Counts). Did m' x m'' r o) e d))

pub did_after : {m m' m'' : List ℕ} {c c' : Counts} {r : Walked} (w : Row) (o : Out) → w.default ≡ [] → c' ≡ counted c (length w.text) → m' ≡ pushed m c w
    → Did m' c' m'' r o → Did m c m'' r (rows_then (w ∷ []) o)
did_after {c = c} w o n e h d = did_pushed w o (e ∙ ap (counted c) (own_string w n)) h d

-- ---- one part, and then the next

-- a call was refused: so is the whole
pub did_stop : {m m' m'' : List ℕ} {c : Counts} {r : Walked} {f : Fault} (o next : Out) → Did m c m' r o → r ≡ Err f → Did m c m'' (Err f) (and_then o next)
did_stop (refused x) next d e = record { did = sym e ∙ d.did }
did_stop (read rows) next d e =
    let a = d.did.0 in
    let z : ◌≡◌ {A = ℕ} 0 1 = cc in
    absurd (omega arith)

-- a call went on: so does the whole
pub did_then : {m m' m'' : List ℕ} {c c' : Counts} {r r'' : Walked} (o next : Out) → Did m c m' r o → r ≡ Ok c'
    → Did m' c' m'' r'' next → Did m c m'' r'' (and_then o next)
did_then (refused x) next d e w =
    let a = d.did in
    let z : ◌≡◌ {A = ℕ} 0 1 = cc in
    absurd (omega arith)
did_then {m} {m'} {m''} {c} {c'} {r} {r''} (read rows) next d e w =
    let a = d.did.0 in
    let k : c' ≡ counted_all c rows = cc in
    did_rows m m'' c r'' rows next
    (subst (λ (x : List ℕ). Did x (counted_all c rows) m'' r'' next) d.did.1 (subst (λ (x : Counts). Did m' x m'' r'' next) k w))

-- nothing comes behind
pub did_end : {m m' : List ℕ} {c : Counts} {r : Walked} (o : Out) → Did m c m' r o → Did m c m' r (and_then o (read []))
did_end (refused x) d = record { did = d.did }
did_end {m} {m'} {c} {r} (read rows) d = subst (λ (x : List Row). Did m c m' r (read x)) (sym (append-nil rows)) d

-- nothing stands before
pub none_then : (o : Out) → o ≡ and_then (read []) o
none_then (refused x) = refl
none_then (read xs) = refl

-- rows stand before both
pub rows_then_lem : (rs : List Row) (o next : Out) → rows_then rs (and_then o next) ≡ and_then (rows_then rs o) next
rows_then_lem rs (refused f) next = refl
rows_then_lem rs (read xs) (refused f) = refl
rows_then_lem rs (read xs) (read ys) = ap read (sym (append_assoc rs xs ys))

-- a part stands before both
pub part_then : (x o next : Out) → and_then x (and_then o next) ≡ and_then (and_then x o) next
part_then (refused f) o next = refl
part_then (read rs) o next = rows_then_lem rs o next

-- ---- a check, and then

pub did_fault : {m m' : List ℕ} {c : Counts} {f : Fault} (x : Check) (next : Out) → x ≡ Err f → Did m c m' (Err f) (after x next)
did_fault {m} {m'} {c} {f} x next e = subst (λ (y : Check). Did m c m' (Err f) (after y next)) (sym e) (did_bad m m' c f)

pub did_fine : {m m' : List ℕ} {c : Counts} {r : Walked} (x : Check) (next : Out) → x ≡ Ok tt → Did m c m' r next → Did m c m' r (after x next)
did_fine {m} {m'} {c} {r} x next e d = subst (λ (y : Check). Did m c m' r (after y next)) (sym e) d

pub after_then : (x : Check) (o next : Out) → after x (and_then o next) ≡ and_then (after x o) next
after_then (Ok tt) o next = refl
after_then (Err f) o next = refl

-- ---- definitions

pub titled_as : {m m' buffer full : List ℕ} {c c' : Counts} {r : Walked} {n : ℕ} (o : Out) → Did m c m' r o → r ≡ Ok c' → n ≤ length buffer → take (n - 0) (drop 0 buffer) ≡ full
    → Titled m c m' (defined_as n c') buffer full o
titled_as (refused x) d e k h =
    let a = d.did in
    let z : ◌≡◌ {A = ℕ} 0 1 = cc in
    absurd (omega arith)
titled_as {c = c} {c'} {n = n} (read rows) d e k h =
    let a = d.did.0 in
    let z : c' ≡ counted_all c rows = cc in
    record { titled = (n, ap (defined_as n) z, d.did.1, k, h) }

pub titled_bad : {m m' buffer full : List ℕ} {c : Counts} {r : Walked} {f : Fault} (o : Out) → Did m c m' r o → r ≡ Err f → Titled m c m' (Err f) buffer full o
titled_bad {f = f} (refused x) d e = let a = d.did in let z : f ≡ x = cc in record { titled = ap Err z }
titled_bad (read rows) d e =
    let a = d.did.0 in
    let z : ◌≡◌ {A = ℕ} 0 1 = cc in
    absurd (omega arith)

same_defined : (n k : ℕ) {c d : Counts} → defined_as n c ≡ defined_as k d → ◌≡◌ {A = Defined} (record { name = n; next = c }) (record { name = k; next = d })
same_defined n k e = cc

-- the same as a walk's answer
pub did_titled : {m m' buffer full : List ℕ} {c c' : Counts} {r : Result Defined Fault} {n : ℕ} (o : Out) → Titled m c m' r buffer full o → r ≡ defined_as n c' → Did m c m' (Ok c') o
did_titled (refused x) d e =
    let a = d.titled in
    let z : ◌≡◌ {A = ℕ} 0 1 = cc in
    absurd (omega arith)
did_titled {c = c} {c'} {n = n} (read rows) d e = record { did = (ap (λ (x : Defined). Ok x.next) (same_defined n d.titled.0 (sym e ∙ d.titled.1)), d.titled.2) }

pub did_untitled : {m m' buffer full : List ℕ} {c : Counts} {r : Result Defined Fault} {f : Fault} (o : Out) → Titled m c m' r buffer full o → r ≡ Err f → Did m c m' (Err f) o
did_untitled {f = f} (refused x) d e = let a = d.titled in let z : f ≡ x = cc in record { did = ap Err z }
did_untitled (read rows) d e =
    let a = d.titled.1 in
    let z : ◌≡◌ {A = ℕ} 0 1 = cc in
    absurd (omega arith)

-- the full name in the buffer
pub titled_front : {m m' buffer full : List ℕ} {c c' : Counts} {r : Result Defined Fault} {n : ℕ} (o : Out) → Titled m c m' r buffer full o → r ≡ defined_as n c'
    → (n ≤ length buffer) × (take (n - 0) (drop 0 buffer) ≡ full)
titled_front (refused x) d e =
    let a = d.titled in
    let z : ◌≡◌ {A = ℕ} 0 1 = cc in
    absurd (omega arith)
titled_front {buffer = buffer} {full} {n = n} (read rows) d e =
    let z = ap (λ (x : Defined). x.name) (same_defined d.titled.0 n (sym d.titled.1 ∙ e)) in
    subst (λ (k : ℕ). (k ≤ length buffer) × (take (k - 0) (drop 0 buffer) ≡ full)) z (d.titled.3, d.titled.4)

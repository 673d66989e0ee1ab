-- Full names: where there is none, and that each has at least one byte.
-- Assumes nothing.
use mathlib.Core.Path.{◌≡◌, refl, sym, ap, ◌∙◌}
use mathlib.Core.Bool.{Bool, true, false, not, cond, ◌&&◌, ◌||◌}
use mathlib.Core.List.{List, [], ◌∷◌, ◌++◌, append_assoc}
use Prim.Native.Nat.{ℕ, zero, suc, ◌+◌, ◌<◌, ◌≤◌}
use native.Mathlib.Nat.{add-zero}
use native.Mathlib.Omega.{arith}
use lib.ListN.{length, take, length-append}
use Rattle.answer.specs.declared.numbers.Numbers.{Numbers}
use Rattle.answer.specs.Answers.{accepted, refused}
use Rattle.ground.proofs.Laws.{never, and_true}
use Rattle.name.specs.Name.{every, is_empty, is_dotted, is_reserved}
use Rattle.name.specs.Full.{is_short}
use Rattle.name.proofs.Laws.{dotted_some}
use Rattle.row.specs.Layout.{strings_start}
use Rattle.row.specs.Rows.{Row, strings_of, texts}
use Rattle.row.specs.Sets.{flat, decode}
use Rattle.row.proofs.RowLaws.{length_strings, texts_append}
use Rattle.row.specs.declared.kind.Kind.{Kind}
use Rattle.row.specs.declared.kind.Kind.TheVariants.{Reference, Field, Symbol, Alias, FieldAlias}
use Rattle.resolve.specs.Kinds.{is_kind, is_definition, is_named}
use Rattle.resolve.specs.Rules.{is_full_name, is_own_name, good_text, good_row, good_rows, is_declaration}
use Rattle.formed.specs.WellFormed.{well_formed}
use Rattle.resolve.proofs.Laws.{strings_text, row_keeps}
use Rattle.kept.proofs.Good.{declaration_first}
use Rattle.set.specs.Naming.{has_full_name, name_among, name_in, full_name_in, start_among, start_in, full_name_start, naming_of}
use Rattle.demands.specs.Building.{At, first, behind, Nameless, no_place, no_row, no_name}

-- ---- a full name has a byte

full_some : (s : List ℕ) → is_full_name s ≡ true → is_empty s ≡ false
unfolding is_full_name
full_some s e = dotted_some s (and_true (is_short s) (is_dotted s) e).1

text_some : (k : Kind) (s : List ℕ) → has_full_name k ≡ true → good_text k s ≡ true → is_empty s ≡ false
unfolding has_full_name is_named good_text
text_some k s h e = go (is_definition k) (is_kind Reference k) (is_kind Alias k) h e
  where
    go : (d r a : Bool) → (d || r || a) ≡ true → cond (d || a) (is_full_name s && not (is_reserved s)) (cond r (is_full_name s) (cond (is_kind Field k || is_kind FieldAlias k || is_kind Symbol k) (is_own_name s) (is_empty s))) ≡ true → is_empty s ≡ false
    go true r a p q = full_some s (and_true (is_full_name s) (not (is_reserved s)) q).0
    go false r true p q = full_some s (and_true (is_full_name s) (not (is_reserved s)) q).0
    go false true false p q = full_some s q
    go false false false p q = never p

row_text : (r : Row) (rest : List Row) → good_row r rest ≡ true → good_text r.kind r.text ≡ true
row_text r rest e = strings_text r (row_keeps r rest e).0

-- a row of a good set is a good row, with the rows behind it
rows_good : {rows : List Row} {i : ℕ} {r : Row} → good_rows rows ≡ true → At rows i r → (rest : List Row) × (good_row r rest ≡ true)
unfolding good_rows
rows_good g (first {x} {xs}) = (xs, (and_true (good_row x xs) (good_rows xs) g).0)
rows_good g (behind {y} {xs} a) = rows_good (and_true (good_row y xs) (good_rows xs) g).1 a

set_rows : {ds : List (List Row)} {place : ℕ} {rows : List Row} → every is_declaration ds ≡ true → At ds place rows → good_rows rows ≡ true
unfolding every
set_rows g (first {x} {xs}) = (declaration_first x (and_true (is_declaration x) (every is_declaration xs) g).0).good
set_rows g (behind {y} {xs} a) = set_rows (and_true (is_declaration y) (every is_declaration xs) g).1 a

pub set_row : {ds : List (List Row)} {place i : ℕ} {rows : List Row} {r : Row} → every is_declaration ds ≡ true → At ds place rows → At rows i r → (rest : List Row) × (good_row r rest ≡ true)
set_row g a b = rows_good (set_rows g a) b

-- ---- the name of a row, by its place

among_at : {rows : List Row} {i : ℕ} {r : Row} → At rows i r → name_among rows i ≡ cond (has_full_name r.kind) r.text []
unfolding name_among
among_at first = refl
among_at (behind a) = among_at a

pub name_at : {ds : List (List Row)} {place i : ℕ} {rows : List Row} {r : Row} → At ds place rows → At rows i r → name_in ds place i ≡ cond (has_full_name r.kind) r.text []
unfolding name_in
name_at first b = among_at b
name_at (behind a) b = name_at a b

pub name_of : {ds : List (List Row)} {place i : ℕ} {rows : List Row} {r : Row} → At ds place rows → At rows i r → has_full_name r.kind ≡ true → name_in ds place i ≡ r.text
name_of a b h = name_at a b ∙ rw h

among_past : (rows : List Row) (i : ℕ) → length rows ≤ i → name_among rows i ≡ []
unfolding name_among
among_past [] i h = refl
among_past (r ∷ rows) zero h = absurd (omega arith)
among_past (r ∷ rows) (suc i) h = among_past rows i (omega arith)

in_past : (ds : List (List Row)) (place i : ℕ) → length ds ≤ place → name_in ds place i ≡ []
unfolding name_in
in_past [] place i h = refl
in_past (d ∷ ds) zero i h = absurd (omega arith)
in_past (d ∷ ds) (suc place) i h = in_past ds place i (omega arith)

no_row_there : {ds : List (List Row)} {place : ℕ} {rows : List Row} (i : ℕ) → At ds place rows → length rows ≤ i → name_in ds place i ≡ []
unfolding name_in
no_row_there i (first {x}) h = among_past x i h
no_row_there i (behind a) h = no_row_there i a h

pub nameless_if : {ds : List (List Row)} {place i : ℕ} → Nameless ds place i → name_in ds place i ≡ []
nameless_if {ds} {place} {i} (no_place h) = in_past ds place i h
nameless_if {i = i} (no_row a h) = no_row_there i a h
nameless_if (no_name a b h) = name_at a b ∙ rw h

-- ---- each place of a list is past its end, or something stands there

data Spot {A : Type 0} (xs : List A) (i : ℕ) : Type 0 where
  past : length xs ≤ i → Spot xs i
  there : {x : A} → At xs i x → Spot xs i

spot : {A : Type 0} (xs : List A) (i : ℕ) → Spot xs i
spot [] i = past (omega arith)
spot (x ∷ xs) zero = there first
spot (x ∷ xs) (suc i) = go (spot xs i)
  where
    go : Spot xs i → Spot (x ∷ xs) (suc i)
    go (past h) = past (omega arith)
    go (there a) = there (behind a)

some_not : {A : Type 0} (s : List ℕ) → is_empty s ≡ false → s ≡ [] → A
unfolding is_empty
some_not s p q = never (sym p ∙ ap is_empty q)

module _ (ds : List (List Row)) (g : every is_declaration ds ≡ true) (place i : ℕ) (e : name_in ds place i ≡ []) where
  of_row : {rows : List Row} {r : Row} → At ds place rows → At rows i r → (b : Bool) → has_full_name r.kind ≡ b → Nameless ds place i
  of_row {r = r} a b false h = no_name a b h
  of_row {r = r} a b true h = some_not r.text (let z = set_row g a b in text_some r.kind r.text h (row_text r z.0 z.1)) (sym (name_at a b ∙ rw h) ∙ e)

  of_rows : {rows : List Row} → At ds place rows → Spot rows i → Nameless ds place i
  of_rows a (past h) = no_row a h
  of_rows a (there {x = r} b) = of_row a b (has_full_name r.kind) refl

  of_set : Spot ds place → Nameless ds place i
  of_set (past h) = no_place h
  of_set (there {x = rows} a) = of_rows a (spot rows i)

  pub nameless_only : Nameless ds place i
  nameless_only = of_set (spot ds place)

-- ---- of memory

pub full_formed : (m : List ℕ) (place i : ℕ) → well_formed m ≡ true → full_name_in m place i ≡ name_in (decode m) place i
unfolding full_name_in
full_formed m place i wf = rw wf

-- the two calls agree
pub record Agree (name : List ℕ) (said : Numbers) : Type 0 where
  pub none : name ≡ [] → said.number ≡ 0 → ⊥
  pub refusal : (said.number ≡ 0 → ⊥) → name ≡ []
  pub named : said.number ≡ 0 → (said ≡ accepted (length name) 0 0) × (1 ≤ length name)

agree_refused : (k place : ℕ) → Agree [] (refused (suc k) place 0)
agree_refused k place = record { none = λ e f. omega arith; refusal = λ e. refl; named = λ e. absurd (omega arith) }

agree_name : (k place : ℕ) (name : List ℕ) → Agree name (cond (is_empty name) (refused (suc k) place 0) (accepted (length name) 0 0))
unfolding is_empty
agree_name k place [] = agree_refused k place
agree_name k place (b ∷ name) = record {
  none = λ e. (let z : ◌≡◌ {A = ℕ} 0 1 = cc in absurd (omega arith));
  refusal = λ e. absurd (e refl);
  named = λ e. (refl, omega arith);
}

pub calls_agree : (m : List ℕ) (place i : ℕ) → Agree (full_name_in m place i) (naming_of m place i)
unfolding full_name_in naming_of
calls_agree m place i = go (well_formed m)
  where
    go : (b : Bool) → Agree (cond b (name_in (decode m) place i) []) (cond b (cond (is_empty (name_in (decode m) place i)) (refused 21 place 0) (accepted (length (name_in (decode m) place i)) 0 0)) (refused 20 place 0))
    go true = agree_name 20 place (name_in (decode m) place i)
    go false = agree_refused 19 place

pub nameless_said : (m : List ℕ) (place i : ℕ) → well_formed m ≡ true → Nameless (decode m) place i → naming_of m place i ≡ refused 21 place 0
unfolding naming_of is_empty
nameless_said m place i wf h = rw (wf, nameless_if h)

-- ---- where a full name lies

start_among_lem : {rows : List Row} {i : ℕ} {r : Row} (at : ℕ) → At rows i r → start_among at rows i ≡ cond (has_full_name r.kind) (at + length (texts (take i rows))) 0
unfolding start_among texts
start_among_lem at first = rw add-zero
start_among_lem at (behind {y = y} {xs = xs} {place = i} a) =
    let k : at + length (strings_of y) + length (texts (take i xs)) ≡ at + length (strings_of y ++ texts (take i xs)) = omega (arith, length-append (strings_of y) (texts (take i xs))) in
    start_among_lem (at + length (strings_of y)) a ∙ rw k

start_at : {ds : List (List Row)} {place i : ℕ} {rows : List Row} {r : Row} (at : ℕ) → At ds place rows → At rows i r
    → start_in at ds place i ≡ cond (has_full_name r.kind) (at + length (texts (flat (take place ds) ++ take i rows))) 0
unfolding start_in flat
start_at at first b = start_among_lem at b
start_at {i = i} {rows = rows} at (behind {y = y} {xs = xs} {place = place} a) b =
    let z : List Row = flat (take place xs) ++ take i rows in
    let k : at + length (texts y) + length (texts z) ≡ at + length (texts ((y ++ flat (take place xs)) ++ take i rows))
    = omega (arith, ap (λ (x : List Row). length (texts x)) (append_assoc y (flat (take place xs)) (take i rows)), ap length (texts_append y z), length-append (texts y) (texts z)) in
    start_at (at + length (texts y)) a b ∙ rw k

pub start_of : (m : List ℕ) (place i : ℕ) {rows : List Row} {r : Row} → well_formed m ≡ true → At (decode m) place rows → At rows i r → has_full_name r.kind ≡ true
    → full_name_start m place i ≡ strings_start + length (texts (flat (take place (decode m)) ++ take i rows))
unfolding full_name_start
start_of m place i wf a b h = rw wf (start_at strings_start a b ∙ rw h)

-- ---- no two rows have their full names at one place

module _ (r : Row) (n : name_among (r ∷ []) 0 ≡ [] → ⊥) where
  first_there : (at : ℕ) (rows : List Row) → (start_among at (r ∷ rows) 0 ≡ at) × (1 ≤ length r.text)
  unfolding name_among start_among
  first_there at rows = go (has_full_name r.kind) r.text n
    where
      go : (b : Bool) (x : List ℕ) → (cond b x [] ≡ [] → ⊥) → (cond b at 0 ≡ at) × (1 ≤ length x)
      go true [] h = absurd (h refl)
      go true (y ∷ x) h = (refl, omega arith)
      go false x h = absurd (h refl)

among_within : (rows : List Row) (at i : ℕ) → (name_among rows i ≡ [] → ⊥) → (at ≤ start_among at rows i) × (start_among at rows i < at + length (texts rows))
unfolding name_among start_among texts
among_within [] at i h = absurd (h refl)
among_within (r ∷ rows) at zero h =
    let z = first_there r h at rows in
    (omega (arith, z.0), omega (arith, z.0, z.1, length_strings r, length-append (strings_of r) (texts rows)))
among_within (r ∷ rows) at (suc i) h =
    let z = among_within rows (at + length (strings_of r)) i h in
    (omega (arith, z.0), omega (arith, z.1, length-append (strings_of r) (texts rows)))

among_one : (rows : List Row) (at i j : ℕ) → (name_among rows i ≡ [] → ⊥) → (name_among rows j ≡ [] → ⊥) → start_among at rows i ≡ start_among at rows j → i ≡ j
unfolding name_among start_among
among_one [] at i j h k e = absurd (h refl)
among_one (r ∷ rows) at zero zero h k e = refl
among_one (r ∷ rows) at zero (suc j) h k e = let z = first_there r h at rows in absurd (omega (arith, e, z.0, z.1, length_strings r, (among_within rows (at + length (strings_of r)) j k).0))
among_one (r ∷ rows) at (suc i) zero h k e = let z = first_there r k at rows in absurd (omega (arith, e, z.0, z.1, length_strings r, (among_within rows (at + length (strings_of r)) i h).0))
among_one (r ∷ rows) at (suc i) (suc j) h k e = ap suc (among_one rows (at + length (strings_of r)) i j h k e)

in_behind : (ds : List (List Row)) (at place i : ℕ) → (name_in ds place i ≡ [] → ⊥) → at ≤ start_in at ds place i
unfolding name_in start_in
in_behind [] at place i h = absurd (h refl)
in_behind (d ∷ ds) at zero i h = (among_within d at i h).0
in_behind (d ∷ ds) at (suc place) i h = omega (arith, in_behind ds (at + length (texts d)) place i h)

in_one : (ds : List (List Row)) (at p i q j : ℕ) → (name_in ds p i ≡ [] → ⊥) → (name_in ds q j ≡ [] → ⊥) → start_in at ds p i ≡ start_in at ds q j → (p ≡ q) × (i ≡ j)
unfolding name_in start_in
in_one [] at p i q j h k e = absurd (h refl)
in_one (d ∷ ds) at zero i zero j h k e = (refl, among_one d at i j h k e)
in_one (d ∷ ds) at zero i (suc q) j h k e = absurd (omega (arith, e, (among_within d at i h).1, in_behind ds (at + length (texts d)) q j k))
in_one (d ∷ ds) at (suc p) i zero j h k e = absurd (omega (arith, e, (among_within d at j k).1, in_behind ds (at + length (texts d)) p i h))
in_one (d ∷ ds) at (suc p) i (suc q) j h k e = let z = in_one ds (at + length (texts d)) p i q j h k e in (ap suc z.0, z.1)

pub apart : (m : List ℕ) (p i q j : ℕ) → (full_name_in m p i ≡ [] → ⊥) → (full_name_in m q j ≡ [] → ⊥) → full_name_start m p i ≡ full_name_start m q j → (p ≡ q) × (i ≡ j)
unfolding full_name_in full_name_start
apart m p i q j = go (well_formed m)
  where
    go : (b : Bool) → (cond b (name_in (decode m) p i) [] ≡ [] → ⊥) → (cond b (name_in (decode m) q j) [] ≡ [] → ⊥)
        → cond b (start_in strings_start (decode m) p i) 0 ≡ cond b (start_in strings_start (decode m) q j) 0 → (p ≡ q) × (i ≡ j)
    go true h k e = in_one (decode m) strings_start p i q j h k e
    go false h k e = absurd (h refl)

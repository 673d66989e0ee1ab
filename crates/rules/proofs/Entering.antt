-- Strings that are entered in a table of marks as they are passed: the turns of the loops that ask it.
-- Assumes nothing.
use Rattle.std.specs.Prelude.{Option, Some, None, Ok, Err}
use mathlib.Core.Path.{◌≡◌, refl, sym, ap, subst, ◌∙◌}
use mathlib.Core.Bool.{Bool, true, false, cond}
use mathlib.Core.List.{List, [], ◌∷◌, ◌++◌, map, map-append, append_assoc, append-nil}
use Prim.Native.Nat.{ℕ}
use lib.ListN.{length}
use Rattle.answer.specs.declared.refusal.Fault.{Fault}
use Rattle.name.specs.Name.{is_one_of}
use Rattle.view.specs.declared.members.Titles.{Titles}
use Rattle.view.specs.Values.{shape_at}
use Rattle.view.specs.Strings.{string_at}
use Rattle.view.specs.Members.{titles_of}
use Rattle.view.specs.Marks.{mark_of}
use Rattle.view.specs.Elements.{first_element, next_element, elements_at, elements}
use Rattle.view.proofs.Laws.{left_start, left_done, left_next}
use Rattle.seen.specs.Seen.{Sized, is_marked, entered, Holds}
use Rattle.seen.proofs.Laws.{length_entered, sized_as, holds_none, holds_more, unmarked_new}
use Rattle.form.specs.Checks.{◌then◌, Check}
use Rattle.form.specs.Spots.{on_spot, is_object, as_text, aliases_in, objects_among, fields_in}
use Rattle.rules.specs.Unions.{before}
use Rattle.rules.specs.Symbols.{symbols_new}
use Rattle.rules.specs.Fields.{field_name_at, taken_by, taken_among, entered_all, field_names_check}
use Rattle.rules.proofs.Earlier.{Passed, passed_start, passed_next, passed_before}
use Rattle.rules.proofs.Listed.{symbols_left, symbol_after, symbols_stop, symbols_step, fields_left, field_after, taken_snoc, fields_stop, fields_step, name_of, aliases_of}

-- ---- some strings entered

pub length_all : (ss : List (List ℕ)) (table : List ℕ) → length (entered_all table ss) ≡ length table
unfolding entered_all
length_all [] table = refl
length_all (s ∷ ss) table = length_all ss (entered table (mark_of s)) ∙ length_entered table (mark_of s)

holds_all : (ss : List (List ℕ)) (table : List ℕ) (taken : List (List ℕ)) → Holds table taken → Sized table → Holds (entered_all table ss) (taken ++ ss)
unfolding entered_all
holds_all [] table taken h l = rw append-nil h
holds_all (s ∷ ss) table taken h l =
    subst (λ (z : List (List ℕ)). Holds (entered_all (entered table (mark_of s)) ss) z) (append_assoc taken (s ∷ []) ss)
    (holds_all ss (entered table (mark_of s)) (taken ++ (s ∷ [])) (holds_more h s l.some) (sized_as l (length_entered table (mark_of s))))

-- one, then the others
pub entered_first : (s : List ℕ) (ss : List (List ℕ)) (table : List ℕ) {table₁ table₂ : List ℕ} {m : ℕ} → m ≡ mark_of s → table₁ ≡ entered table m
    → table₂ ≡ entered_all table₁ ss → table₂ ≡ entered_all table (s ∷ ss)
unfolding entered_all
entered_first s ss table e f g = rw (← e, ← f) g

-- a loop that enters what is left
module _ (t : List ℕ) {s : Option ℕ} (table : List ℕ) {x : List ℕ} (inv : entered_all table (map (string_at t) (elements_at t s)) ≡ x) where
  pub entered_done : s ≡ None → table ≡ x
  unfolding entered_all
  entered_done e = sym (ap (λ (l : List ℕ). entered_all table (map (string_at t) l)) (left_done t e)) ∙ inv

  pub entered_turn : {p : ℕ} → s ≡ Some p → {m : ℕ} → m ≡ mark_of (string_at t p) → {table₁ : List ℕ} → table₁ ≡ entered table m
      → {s' : Option ℕ} → s' ≡ next_element t p → entered_all table₁ (map (string_at t) (elements_at t s')) ≡ x
  entered_turn {p} e f g {s'} h =
      entered_first (string_at t p) (map (string_at t) (elements_at t s')) table f g refl
      ∙ sym (ap (λ (l : List ℕ). entered_all table (map (string_at t) l)) (left_next t e h))
      ∙ inv

-- ---- a loop over an array: what the elements that were passed take is entered, and what is left of an answer is the whole

pub record Marked {A : Type 0} (t : List ℕ) (p : ℕ) (s : Option ℕ) (table : List ℕ) (takes : List ℕ → List (List ℕ)) (left : List ℕ → List ℕ → A) (x : A) : Type 0 where
  pub past : List ℕ
  pub passed : Passed t p s past
  pub held : Holds table (takes past)
  pub sized : Sized table
  pub rest : left past (elements_at t s) ≡ x

module _ {A : Type 0} {t : List ℕ} {p : ℕ} {s : Option ℕ} {table : List ℕ} (takes : List ℕ → List (List ℕ)) (left : List ℕ → List ℕ → A) {x : A}
    (inv : Marked t p s table takes left x) where
  marked_done : (y : A) → ((qs : List ℕ) → left qs [] ≡ y) → s ≡ None → y ≡ x
  marked_done y stop e = sym (stop inv.past) ∙ sym (ap (left inv.past) (left_done t e)) ∙ inv.rest

  module _ {q : ℕ} (e : s ≡ Some q) where
    marked_held : Holds table (takes (before q (elements t p)))
    marked_held = subst (λ (l : List ℕ). Holds table (takes l)) (sym (passed_before inv.passed e)) inv.held

    -- the answer of one element, by those before it in the array, and how it is joined with the others'
    module _ {B : Type 0} (one : List ℕ → ℕ → B) (join : B → A → A)
        (step : (qs : List ℕ) (q : ℕ) (ps : List ℕ) → left qs (q ∷ ps) ≡ join (one qs q) (left (qs ++ (q ∷ [])) ps))
        {r : B} (f : r ≡ one (before q (elements t p)) q) where
      marked_step : {s' : Option ℕ} → s' ≡ next_element t q → join r (left (inv.past ++ (q ∷ [])) (elements_at t s')) ≡ x
      marked_step {s'} g =
          ap (λ (c : B). join c (left (inv.past ++ (q ∷ [])) (elements_at t s'))) (f ∙ ap (λ (l : List ℕ). one l q) (passed_before inv.passed e))
          ∙ sym (step inv.past q (elements_at t s'))
          ∙ sym (ap (left inv.past) (left_next t e g))
          ∙ inv.rest

      marked_on : (ss : List (List ℕ)) → takes (inv.past ++ (q ∷ [])) ≡ takes inv.past ++ ss → {table₁ : List ℕ} → table₁ ≡ entered_all table ss
          → ((y : A) → join r y ≡ y) → {s' : Option ℕ} → s' ≡ next_element t q → Marked t p s' table₁ takes left x
      marked_on ss more h passes {s'} g =
          record {
            past = inv.past ++ (q ∷ []);
            passed = passed_next inv.passed e g;
            held = rw (more, h) (holds_all ss table (takes inv.past) inv.held inv.sized);
            sized = sized_as inv.sized (ap length h ∙ length_all ss table);
            rest = sym (passes (left (inv.past ++ (q ∷ [])) (elements_at t s'))) ∙ marked_step g;
          }

-- what a mark that is new says of the string
module _ (t : List ℕ) (q : ℕ) {table : List ℕ} {taken : List (List ℕ)} (h : Holds table taken) {m : ℕ} (e : m ≡ mark_of (string_at t q)) {b : Bool} (f : b ≡ is_marked table m) where
  pub unmarked : b ≡ false → false ≡ is_one_of taken (string_at t q)
  unmarked g = sym (unmarked_new h (string_at t q) e f g)

-- ---- 14

abbrev names_of : List ℕ → List ℕ → List (List ℕ)
names_of t past = map (string_at t) past

module _ (t : List ℕ) where
  pub symbols_start : (p : ℕ) {s : Option ℕ} {table : List ℕ} → Sized table → s ≡ first_element t p
      → Marked t p s table (names_of t) (symbols_left t) (symbols_new t [] (elements t p))
  symbols_start p {s} {table} l e =
      record { past = []; passed = passed_start t p e; held = holds_none table; sized = l; rest = ap (symbols_new t []) (left_start t p e) }

  module _ {p : ℕ} {s : Option ℕ} {table : List ℕ} {x : Check} (inv : Marked t p s table (names_of t) (symbols_left t) x) where
    pub symbols_done : s ≡ None → Ok tt ≡ x
    symbols_done e = marked_done (names_of t) (symbols_left t) inv (Ok tt) (symbols_stop t) e

    module _ {q : ℕ} (e : s ≡ Some q) where
      pub symbols_held : Holds table (map (string_at t) (before q (elements t p)))
      symbols_held = marked_held (names_of t) (symbols_left t) inv e

      module _ {r : Check} (f : r ≡ symbol_after t (before q (elements t p)) q) where
        pub symbols_bad : {y : Fault} → r ≡ Err y → Err y ≡ x
        symbols_bad g = rw g at (marked_step (names_of t) (symbols_left t) inv e (symbol_after t) ◌then◌ (symbols_step t) f refl)

        pub symbols_on : r ≡ Ok tt → {table₁ : List ℕ} → table₁ ≡ entered table (mark_of (string_at t q)) → {s' : Option ℕ} → s' ≡ next_element t q
            → Marked t p s' table₁ (names_of t) (symbols_left t) x
        unfolding entered_all
        symbols_on g h i =
            marked_on (names_of t) (symbols_left t) inv e (symbol_after t) ◌then◌ (symbols_step t) f (string_at t q ∷ [])
            (map-append (string_at t) inv.past (q ∷ [])) h (λ y. rw g) i

-- ---- 11

abbrev taken_here : List ℕ → ℕ → List (List ℕ)
taken_here t q = cond (is_object (shape_at t q)) (taken_by t q) []

module _ (t : List ℕ) where
  pub fields_start : (p : ℕ) {s : Option ℕ} {table : List ℕ} → Sized table → s ≡ first_element t p
      → Marked t p s table (taken_among t) (fields_left t) (field_names_check t [] (fields_in t p))
  unfolding fields_in taken_among
  fields_start p {s} {table} l e =
      record {
        past = [];
        passed = passed_start t p e;
        held = holds_none table;
        sized = l;
        rest = ap (λ (l : List ℕ). field_names_check t [] (objects_among t l)) (left_start t p e);
      }

  module _ {p : ℕ} {s : Option ℕ} {table : List ℕ} {x : Check} (inv : Marked t p s table (taken_among t) (fields_left t) x) where
    pub fields_done : s ≡ None → Ok tt ≡ x
    fields_done e = marked_done (taken_among t) (fields_left t) inv (Ok tt) (fields_stop t) e

    module _ {q : ℕ} (e : s ≡ Some q) where
      pub fields_held : Holds table (taken_among t (before q (elements t p)))
      fields_held = marked_held (taken_among t) (fields_left t) inv e

      module _ {r : Check} (f : r ≡ field_after t (before q (elements t p)) q) where
        pub fields_bad : {y : Fault} → r ≡ Err y → Err y ≡ x
        fields_bad g = rw g at (marked_step (taken_among t) (fields_left t) inv e (field_after t) ◌then◌ (fields_step t) f refl)

        pub fields_on : r ≡ Ok tt → {table₁ : List ℕ} → table₁ ≡ entered_all table (taken_here t q) → {s' : Option ℕ} → s' ≡ next_element t q
            → Marked t p s' table₁ (taken_among t) (fields_left t) x
        fields_on g h i =
            marked_on (taken_among t) (fields_left t) inv e (field_after t) ◌then◌ (fields_step t) f (taken_here t q)
            (taken_snoc t inv.past q) h (λ y. rw g) i

  -- what is no field enters nothing; a field enters what it takes
  module _ (q : ℕ) (table : List ℕ) {b : Bool} (e : b ≡ is_object (shape_at t q)) where
    pub entered_none : b ≡ false → table ≡ entered_all table (taken_here t q)
    unfolding entered_all
    entered_none f = rw (← e, f)

    pub entered_names : b ≡ true → {m : Titles} → m ≡ titles_of t q → {n : ℕ} → n ≡ on_spot (as_text t m.name) (λ p. p) q → {table₁ : List ℕ}
        → table₁ ≡ entered_all table (string_at t n ∷ map (string_at t) (aliases_in t m.aliases)) → table₁ ≡ entered_all table (taken_here t q)
    unfolding taken_by
    entered_names f {m} d {n} g h =
        h ∙ ap (λ (k : ℕ). entered_all table (string_at t k ∷ map (string_at t) (aliases_in t m.aliases))) (name_of t q d g)
        ∙ ap (λ (s : Option ℕ). entered_all table (string_at t (field_name_at t q) ∷ map (string_at t) (aliases_in t s))) (aliases_of t q d)
        ∙ rw (← e, f)

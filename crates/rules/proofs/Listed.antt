-- Symbols and fields in order: the turns of the loops.
-- Assumes nothing.
use Rattle.std.specs.Prelude.{Option, Some, None, Ok, Err}
use mathlib.Core.Path.{◌≡◌, refl, sym, ap, ap₂, ◌∙◌}
use mathlib.Core.Bool.{Bool, true, false, not, cond, ◌&&◌, ◌||◌}
use mathlib.Core.List.{List, [], ◌∷◌, ◌++◌, map, map-append, append_assoc, append-nil}
use Prim.Native.Nat.{ℕ}
use lib.ListN.{length}
use Rattle.answer.specs.declared.refusal.Fault.{Fault}
use Rattle.answer.specs.declared.refusal.Why.TheVariants.{SymbolNotAString, SymbolTwice, DefaultNotAString, DefaultNotASymbol, FieldNameTaken}
use Rattle.ground.specs.Bytes.{same}
use Rattle.name.specs.Name.{is_one_of}
use Rattle.name.proofs.Laws.{one_of_append}
use Rattle.view.specs.Values.{shape_at}
use Rattle.view.specs.Strings.{string_at}
use Rattle.view.specs.Members.{members_of, titles_of}
use Rattle.view.specs.declared.members.Titles.{Titles}
use Rattle.view.specs.Elements.{next_element, elements_at, elements}
use Rattle.view.proofs.Laws.{left_done, left_next}
use Rattle.form.specs.Checks.{fault, must, ◌then◌, each_of, Check}
use Rattle.form.specs.Spots.{on_spot, is_text, is_object, as_text, aliases_in, objects_among}
use Rattle.form.specs.Names.{simple_check}
use Rattle.rules.specs.Unions.{before}
use Rattle.rules.specs.Symbols.{symbols_new, symbols_check, default_check}
use Rattle.rules.specs.Fields.{field_name_at, field_name, taken_by, taken_among, field_names_check}
use Rattle.rules.proofs.Earlier.{some, before_end}

-- ---- one of some strings of the text

abbrev pub Alike : List ℕ → ℕ → ℕ → Bool
Alike t at p = same (string_at t at) (string_at t p)

pub among_some : (t : List ℕ) (at : ℕ) (ps : List ℕ) → some (Alike t at) ps ≡ is_one_of (map (string_at t) ps) (string_at t at)
unfolding some is_one_of
among_some t at [] = refl
among_some t at (p ∷ ps) = ap (λ (z : Bool). same (string_at t at) (string_at t p) || z) (among_some t at ps)

-- ---- one of the names that fields take

abbrev pub Takes : List ℕ → ℕ → ℕ → Bool
Takes t at p = is_object (shape_at t p) && is_one_of (taken_by t p) (string_at t at)

taken_one : (t : List ℕ) (p : ℕ) (s : List ℕ) (b : Bool) → is_one_of (cond b (taken_by t p) []) s ≡ (b && is_one_of (taken_by t p) s)
unfolding is_one_of
taken_one t p s true = refl
taken_one t p s false = refl

pub taken_some : (t : List ℕ) (at : ℕ) (ps : List ℕ) → some (Takes t at) ps ≡ is_one_of (taken_among t ps) (string_at t at)
unfolding some is_one_of taken_among
taken_some t at [] = refl
taken_some t at (p ∷ ps) =
    ap₂ ◌||◌ (sym (taken_one t p (string_at t at) (is_object (shape_at t p)))) (taken_some t at ps)
    ∙ sym (one_of_append (cond (is_object (shape_at t p)) (taken_by t p) []) (taken_among t ps) (string_at t at))

-- where a field's name is, and its aliases, by the members that name it
pub name_of : (t : List ℕ) (f : ℕ) {m : Titles} → m ≡ titles_of t f → {q : ℕ} → q ≡ on_spot (as_text t m.name) (λ p. p) f → q ≡ field_name_at t f
unfolding field_name_at members_of titles_of
name_of t f d e = e ∙ ap (λ (m : Titles). on_spot (as_text t m.name) (λ p. p) f) d

pub aliases_of : (t : List ℕ) (f : ℕ) {m : Titles} → m ≡ titles_of t f → m.aliases ≡ (members_of t f).aliases
unfolding members_of titles_of
aliases_of t f d = ap (λ (m : Titles). m.aliases) d

module _ (t : List ℕ) (f at : ℕ) {m : Titles} (d : m ≡ titles_of t f) {q : ℕ} (e : q ≡ on_spot (as_text t m.name) (λ p. p) f) {b : Bool}
    (g : b ≡ same (string_at t at) (string_at t q)) where
  pub takes_name_lem : b ≡ true → true ≡ is_one_of (taken_by t f) (string_at t at)
  unfolding is_one_of taken_by
  takes_name_lem h = rw (← name_of t f d e, ← g, h)

  pub takes_alias : b ≡ false → {c : Bool} → c ≡ is_one_of (map (string_at t) (aliases_in t m.aliases)) (string_at t at) → c ≡ is_one_of (taken_by t f) (string_at t at)
  unfolding is_one_of taken_by
  takes_alias h i =
      i ∙ ap (λ (s : Option ℕ). is_one_of (map (string_at t) (aliases_in t s)) (string_at t at)) (aliases_of t f d)
      ∙ rw (← name_of t f d e, ← g, h)

module _ (t : List ℕ) (f : ℕ) (name : Option ℕ) {s : Option ℕ} (e : s ≡ as_text t name) where
  pub name_here : {p : ℕ} → s ≡ Some p → p ≡ on_spot (as_text t name) (λ q. q) f
  name_here g = ap (λ (x : Option ℕ). on_spot x (λ q. q) f) (sym g ∙ e)

  pub name_missing : s ≡ None → f ≡ on_spot (as_text t name) (λ q. q) f
  name_missing g = ap (λ (x : Option ℕ). on_spot x (λ q. q) f) (sym g ∙ e)

-- ---- 13

abbrev pub strings_of : List ℕ → List ℕ → Check
strings_of t ps = each_of (λ q. must (is_text (shape_at t q)) (fault SymbolNotAString q)) ps

module _ (t : List ℕ) {s : Option ℕ} {x : Check} (inv : strings_of t (elements_at t s) ≡ x) where
  pub strings_done : s ≡ None → Ok tt ≡ x
  unfolding each_of
  strings_done e = sym (ap (strings_of t) (left_done t e)) ∙ inv

  module _ {p : ℕ} (e : s ≡ Some p) {b : Bool} (f : b ≡ is_text (shape_at t p)) where
    strings_step : (must b (fault SymbolNotAString p) then strings_of t (elements_at t (next_element t p))) ≡ x
    unfolding each_of
    strings_step = rw f (sym (ap (strings_of t) (left_next t e refl)) ∙ inv)

    pub strings_not : b ≡ false → Err (fault SymbolNotAString p) ≡ x
    strings_not g = rw g at strings_step

    pub strings_turn : b ≡ true → {s' : Option ℕ} → s' ≡ next_element t p → strings_of t (elements_at t s') ≡ x
    strings_turn g h = rw (g, ← h) at strings_step

then_join : (a b c : Check) → (a then (b then c)) ≡ ((a then b) then c)
then_join (Ok tt) b c = refl
then_join (Err f) b c = refl

-- ---- 14

abbrev pub symbols_left : List ℕ → List ℕ → List ℕ → Check
symbols_left t past qs = symbols_new t (map (string_at t) past) qs

abbrev pub symbol_after : List ℕ → List ℕ → ℕ → Check
symbol_after t past q = simple_check t q then must (not (is_one_of (map (string_at t) past) (string_at t q))) (fault SymbolTwice q)

module _ (t past : List ℕ) (q : ℕ) {c : Check} (e : c ≡ simple_check t q) where
  pub symbol_bad : {y : Fault} → c ≡ Err y → Err y ≡ symbol_after t past q
  symbol_bad f = rw (← e, f)

  pub symbol_next : c ≡ Ok tt → {b : Bool} → b ≡ is_one_of (map (string_at t) past) (string_at t q)
      → {r : Check} → r ≡ must (not b) (fault SymbolTwice q) → r ≡ symbol_after t past q
  symbol_next f g h = rw (← e, f, ← g) h

module _ (t : List ℕ) where
  pub symbols_stop : (qs : List ℕ) → symbols_left t qs [] ≡ Ok tt
  unfolding symbols_new
  symbols_stop qs = refl

  pub symbols_step : (qs : List ℕ) (q : ℕ) (ps : List ℕ) → symbols_left t qs (q ∷ ps) ≡ (symbol_after t qs q then symbols_left t (qs ++ (q ∷ [])) ps)
  unfolding symbols_new
  symbols_step qs q ps =
      then_join (simple_check t q) (must (not (is_one_of (map (string_at t) qs) (string_at t q))) (fault SymbolTwice q))
      (symbols_new t (map (string_at t) qs ++ (string_at t q ∷ [])) ps)
      ∙ ap (λ (l : List (List ℕ)). symbol_after t qs q then symbols_new t l ps) (sym (map-append (string_at t) qs (q ∷ [])))

  module _ (p : ℕ) {c : Check} (e : c ≡ each_of (λ q. must (is_text (shape_at t q)) (fault SymbolNotAString q)) (elements t p)) where
    pub symbols_not : {y : Fault} → c ≡ Err y → Err y ≡ symbols_check t (elements t p)
    unfolding symbols_check
    symbols_not f = rw (← e, f)

    pub symbols_each : c ≡ Ok tt → {r : Check} → r ≡ symbols_new t [] (elements t p) → r ≡ symbols_check t (elements t p)
    unfolding symbols_check
    symbols_each f g = rw (← e, f) g

-- ---- 15, 16

module _ (t : List ℕ) (p : ℕ) {s : Option ℕ} where
  pub default_none : s ≡ None → Ok tt ≡ default_check t s (elements t p)
  unfolding default_check
  default_none e = rw e

  module _ {v : ℕ} (e : s ≡ Some v) {b : Bool} (f : b ≡ is_text (shape_at t v)) where
    pub default_not : b ≡ false → Err (fault DefaultNotAString v) ≡ default_check t s (elements t p)
    unfolding default_check
    default_not g = rw (e, ← f, g)

    pub default_text : b ≡ true → {c : Bool} → c ≡ is_one_of (map (string_at t) (before (length t) (elements t p))) (string_at t v)
        → {r : Check} → r ≡ must c (fault DefaultNotASymbol v) → r ≡ default_check t s (elements t p)
    unfolding default_check
    default_text g {c} h i =
        let j : c ≡ is_one_of (map (string_at t) (elements t p)) (string_at t v) = h ∙ ap (λ (l : List ℕ). is_one_of (map (string_at t) l) (string_at t v)) (before_end t p) in
        rw (e, ← f, g, ← j) i

-- ---- 11

abbrev pub fields_left : List ℕ → List ℕ → List ℕ → Check
fields_left t past ps = field_names_check t (taken_among t past) (objects_among t ps)

abbrev pub field_after : List ℕ → List ℕ → ℕ → Check
field_after t past p =
    cond (is_object (shape_at t p)) (must (not (is_one_of (taken_among t past) (field_name t p))) (fault FieldNameTaken (field_name_at t p))) (Ok tt)

module _ (t : List ℕ) where
  taken_append : (qs ps : List ℕ) → taken_among t (qs ++ ps) ≡ taken_among t qs ++ taken_among t ps
  unfolding taken_among
  taken_append [] ps = refl
  taken_append (q ∷ qs) ps =
      ap (λ (l : List (List ℕ)). cond (is_object (shape_at t q)) (taken_by t q) [] ++ l) (taken_append qs ps)
      ∙ sym (append_assoc (cond (is_object (shape_at t q)) (taken_by t q) []) (taken_among t qs) (taken_among t ps))

  pub taken_snoc : (qs : List ℕ) (q : ℕ) → taken_among t (qs ++ (q ∷ [])) ≡ taken_among t qs ++ cond (is_object (shape_at t q)) (taken_by t q) []
  unfolding taken_among
  taken_snoc qs q = taken_append qs (q ∷ []) ∙ ap (λ (l : List (List ℕ)). taken_among t qs ++ l) (append-nil (cond (is_object (shape_at t q)) (taken_by t q) []))

  pub fields_stop : (qs : List ℕ) → fields_left t qs [] ≡ Ok tt
  unfolding field_names_check objects_among
  fields_stop qs = refl

  by_object : (qs : List ℕ) (q : ℕ) (ps : List ℕ) (b : Bool)
      → field_names_check t (taken_among t qs) (cond b (q ∷ objects_among t ps) (objects_among t ps))
      ≡ (cond b (must (not (is_one_of (taken_among t qs) (field_name t q))) (fault FieldNameTaken (field_name_at t q))) (Ok tt)
      then field_names_check t (taken_among t qs ++ cond b (taken_by t q) []) (objects_among t ps))
  unfolding field_names_check
  by_object qs q ps true = refl
  by_object qs q ps false = ap (λ (l : List (List ℕ)). field_names_check t l (objects_among t ps)) (sym (append-nil (taken_among t qs)))

  pub fields_step : (qs : List ℕ) (q : ℕ) (ps : List ℕ) → fields_left t qs (q ∷ ps) ≡ (field_after t qs q then fields_left t (qs ++ (q ∷ [])) ps)
  unfolding objects_among
  fields_step qs q ps =
      by_object qs q ps (is_object (shape_at t q))
      ∙ ap (λ (l : List (List ℕ)). field_after t qs q then field_names_check t l (objects_among t ps)) (sym (taken_snoc qs q))

  module _ (p q : ℕ) {b : Bool} (e : b ≡ is_object (shape_at t q)) where
    pub field_skipped : b ≡ false → Ok tt ≡ field_after t (before q (elements t p)) q
    field_skipped f = rw (← e, f)

    pub field_new : b ≡ true → {m : Titles} → m ≡ titles_of t q → {n : ℕ} → n ≡ on_spot (as_text t m.name) (λ p. p) q → {c : Bool} → c ≡ is_one_of (taken_among t (before q (elements t p))) (string_at t n)
        → {r : Check} → r ≡ must (not c) (fault FieldNameTaken n) → r ≡ field_after t (before q (elements t p)) q
    field_new f d g h i = rw (← e, f, ← name_of t q d g, ← h) i

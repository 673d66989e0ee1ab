-- What rows write, as values of the grammar: strings, numbers, objects, arrays without white space.
-- Assumes nothing.
use mathlib.Core.Path.{◌≡◌, subst}
use mathlib.Core.Bool.{true}
use mathlib.Core.List.{List, [], ◌∷◌, ◌++◌, append-nil}
use Prim.Native.Nat.{ℕ, zero, suc}
use Rattle.name.specs.Name.{every}
use Rattle.canonical.specs.Canonical.{listed}
use Rattle.grammar.specs.Grammar.{bytes, ◌·◌, join, this, that, Optional, absent, present, Many, none, more, value_separator, char, string, number, member, object, array, value}
use Rattle.legible.proofs.Names.{in_name, name_chars}

-- ---- kinds of values

pub as_number : (n : ℕ) {s : List ℕ} → number s → value n s
unfolding value
as_number zero d = that (that (that (this d)))
as_number (suc n) d = that (that (that (that (that (this d)))))

as_string : (n : ℕ) {s : List ℕ} → string s → value n s
unfolding value
as_string zero d = that (that (that (that d)))
as_string (suc n) d = that (that (that (that (that (that d)))))

as_object : (n : ℕ) {s : List ℕ} → object (value n) s → value (suc n) s
unfolding value
as_object n d = that (that (that (this d)))

as_array_lem : (n : ℕ) {s : List ℕ} → array (value n) s → value (suc n) s
unfolding value
as_array_lem n d = that (that (that (that (this d))))

-- ---- strings

a_string : (s : List ℕ) → Many char s → string (34 ∷ (s ++ (34 ∷ [])))
a_string s d = join bytes (join d bytes)

pub string_value : (n : ℕ) (s : List ℕ) → Many char s → value n (34 ∷ (s ++ (34 ∷ [])))
string_value n s d = as_string n (a_string s d)

-- ---- what stands in brackets, with commas between

comma : value_separator (44 ∷ [])
comma = join none (join bytes none)

module _ (P : List ℕ → Type 0) where
  pub one_more : (s t : List ℕ) → P s → Many (value_separator · P) t → Many (value_separator · P) (44 ∷ (s ++ t))
  one_more s t d m = more (join comma d) m

  pub last_one : (s : List ℕ) → P s → Many (value_separator · P) (44 ∷ s)
  last_one s d = subst (λ (x : List ℕ). Many (value_separator · P) (44 ∷ x)) (append-nil s) (one_more s [] d none)

-- texts of one rule, one for each of some things
pub data Each (P : List ℕ → Type 0) {A : Type 0} : List A → List (List ℕ) → Type 0 where
  nil : Each P [] []
  cons : {x : A} {xs : List A} (p : List ℕ) {ps : List (List ℕ)} → P p → Each P xs ps → Each P (x ∷ xs) (p ∷ ps)

module _ (P : List ℕ → Type 0) {A : Type 0} where
  after_first : {xs : List A} (p : List ℕ) {ps : List (List ℕ)} → P p → Each P xs ps → Many (value_separator · P) (44 ∷ listed (p ∷ ps))
  unfolding listed
  after_first p d nil = last_one P p d
  after_first p d (cons q {ps = ps} e z) = one_more P p (44 ∷ listed (q ∷ ps)) d (after_first q e z)

  items : {xs : List A} {ps : List (List ℕ)} → Each P xs ps → Optional (P · Many (value_separator · P)) (listed ps)
  unfolding listed
  items nil = absent
  items (cons p d nil) = present (subst (λ (s : List ℕ). (P · Many (value_separator · P)) s) (append-nil p) (join d none))
  items (cons p d (cons q e z)) = present (join d (after_first q e z))

module _ (n : ℕ) where
  pub array_value : {A : Type 0} {xs : List A} {ps : List (List ℕ)} → Each (value n) xs ps → value (suc n) (91 ∷ (listed ps ++ (93 ∷ [])))
  array_value z = as_array_lem n (join (join none (join bytes none)) (join (items (value n) z) (join none (join bytes none))))

  -- a key and its value
  pub a_member : (k : List ℕ) → every in_name k ≡ true → (s : List ℕ) → value n s → member (value n) ((34 ∷ (k ++ (34 ∷ []))) ++ (58 ∷ s))
  a_member k e s d = join (a_string k (name_chars k e)) (join (join none (join bytes none)) d)

  pub object_value : (s t : List ℕ) → member (value n) s → Many (value_separator · member (value n)) t → value (suc n) (123 ∷ ((s ++ t) ++ (125 ∷ [])))
  object_value s t d m = as_object n (join (join none (join bytes none)) (join (present (join d m)) (join none (join bytes none))))

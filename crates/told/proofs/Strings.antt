-- The strings of a declaration that have to be names, and the checks of them.
-- Assumes nothing.
use Rattle.std.specs.Prelude.{Option, Some, None, Ok, Err}
use mathlib.Core.Path.{◌≡◌, refl, subst}
use mathlib.Core.Bool.{Bool, true, false, not, cond, ◌&&◌, ◌||◌, and-eq-true_iff}
use mathlib.Core.List.{List, [], ◌∷◌, ◌++◌, map}
use Prim.Native.Nat.{ℕ}
use native.Mathlib.Omega.{arith}
use lib.Dec.{eqb}
use borrow.Author.Tests.{eqb-true}
use Rattle.answer.specs.declared.refusal.Why.TheVariants.{Reserved, StringTooLong, FieldNameTaken, SymbolNotAString, SymbolTwice, DefaultNotAString, DefaultNotASymbol, UnionRuleBroken}
use Rattle.ground.specs.Bytes.{byte_at}
use Rattle.ground.proofs.Laws.{never}
use Rattle.json_scan.specs.Json.{is_digit}
use Rattle.name.specs.Name.{is_name, is_namespace, is_simple, is_reserved, is_one_of, has_dot}
use Rattle.name.specs.Full.{is_short}
use Rattle.view.specs.declared.shape.Shape.TheVariants.{Text, Number, Object, Array, Word, Nothing}
use Rattle.view.specs.declared.members.Members.{Members}
use Rattle.view.specs.Values.{shape_of, shape_at}
use Rattle.view.specs.Elements.{elements}
use Rattle.view.specs.Strings.{string_at}
use Rattle.view.proofs.Laws.{All}
use Rattle.form.specs.Checks.{fault, must, ◌then◌, each_of, Check}
use Rattle.form.specs.Spots.{on_spot, is_text, as_text, as_array, all_texts, aliases_in}
use Rattle.form.specs.Names.{not_a_name, kept, unreserved, simple_check, full_at, reference_check, alias_check, namespace_check, defined_at, definition_check}
use Rattle.form.proofs.Laws.{must_fine, then_fine}
use Rattle.rules.specs.declared.standing.Standing.{Standing}
use Rattle.rules.specs.declared.standing.Standing.TheVariants.{Alone, MemberOf}
use Rattle.rules.specs.Unions.{Head, is_union, is_new, before, union_check}
use Rattle.rules.specs.Fields.{field_name, field_name_at, taken_by, field_names_check}
use Rattle.rules.specs.Symbols.{symbols_new, symbols_check, default_check}
use Rattle.told.specs.Told.{simple, name, namespace}
use Rattle.told.proofs.Fair.{other, FairCheck, must_other, rule_fair, then_fair}

-- ---- where a string stands

text_byte : (b : ℕ) → is_text (shape_of b) ≡ true → b ≡ 34
unfolding shape_of
text_byte b h = go (eqb b 34) refl (eqb b 91) (eqb b 123) (eqb b 45 || is_digit b) (eqb b 116 || eqb b 102 || eqb b 110) h
  where
    go : (x : Bool) → eqb b 34 ≡ x → (y z u w : Bool) → is_text (cond x Text (cond y Array (cond z Object (cond u Number (cond w Word Nothing))))) ≡ true → b ≡ 34
    go true e y z u w h = eqb-true b 34 e
    go false e true z u w h = never h
    go false e false true u w h = never h
    go false e false false true w h = never h
    go false e false false false true h = never h
    go false e false false false false h = never h

module _ (t : List ℕ) where
  abbrev pub Quoted : ℕ → Type 0
  Quoted q = byte_at t q ≡ 34

  pub text_quoted : (q : ℕ) → is_text (shape_at t q) ≡ true → Quoted q
  text_quoted q e = text_byte (byte_at t q) e

  pub as_text_lem : (s : Option ℕ) (q : ℕ) → as_text t s ≡ Some q → Quoted q
  unfolding as_text
  as_text_lem None q e = let z : ◌≡◌ {A = ℕ} 0 1 = cc in absurd (omega arith)
  as_text_lem (Some p) q e = go (is_text (shape_at t p)) refl e
    where
      go : (b : Bool) → is_text (shape_at t p) ≡ b → cond b (Some p) None ≡ Some q → Quoted q
      go true h e = let z : p ≡ q = cc in subst Quoted z (text_quoted p h)
      go false h e = let z : ◌≡◌ {A = ℕ} 0 1 = cc in absurd (omega arith)

  texts_quoted : (qs : List ℕ) → all_texts t qs ≡ true → All Quoted qs
  unfolding all_texts
  texts_quoted [] e = tt
  texts_quoted (q ∷ qs) e =
      let z = (and-eq-true_iff (is_text (shape_at t q)) (all_texts t qs)).0 e in
      (text_quoted q z.0, texts_quoted qs z.1)

  pub aliases_quoted : (s : Option ℕ) → All Quoted (aliases_in t s)
  unfolding aliases_in
  aliases_quoted s = go (as_array t s)
    where
      pick : (p : ℕ) (b : Bool) → all_texts t (elements t p) ≡ b → All Quoted (cond b (elements t p) [])
      pick p true e = texts_quoted (elements t p) e
      pick p false e = tt

      go : (x : Option ℕ) → All Quoted (on_spot x (λ p. cond (all_texts t (elements t p)) (elements t p) []) [])
      go (Some p) = pick p (all_texts t (elements t p)) refl
      go None = tt

  -- ---- names

  kept_fair : (s : List ℕ) (q : ℕ) → FairCheck t (kept s q)
  kept_fair s q = must_other t (is_short s) StringTooLong q refl

  free_fair : (s : List ℕ) (q : ℕ) → FairCheck t (unreserved s q)
  free_fair s q = must_other t (not (is_reserved s)) Reserved q refl

  module _ (q : ℕ) (o : Quoted q) where
    pub simple_fair : FairCheck t (simple_check t q)
    unfolding simple_check
    simple_fair = then_fair t (must (is_simple (string_at t q)) (not_a_name is_simple t q)) (kept (string_at t q) q) (rule_fair t simple q o) (λ _. kept_fair (string_at t q) q)

    pub reference_fair : (n : List ℕ) → FairCheck t (reference_check t n q)
    unfolding reference_check
    reference_fair n = then_fair t (must (is_name (string_at t q)) (not_a_name is_name t q)) (kept (full_at t n q) q) (rule_fair t name q o) (λ _. kept_fair (full_at t n q) q)

    given_fair : (f : List ℕ) → FairCheck t (unreserved f q then kept f q)
    given_fair f = then_fair t (unreserved f q) (kept f q) (free_fair f q) (λ _. kept_fair f q)

    pub alias_fair : (n : List ℕ) → FairCheck t (alias_check t n q)
    unfolding alias_check
    alias_fair n =
        then_fair t (must (is_name (string_at t q)) (not_a_name is_name t q)) (unreserved (full_at t n q) q then kept (full_at t n q) q) (rule_fair t name q o)
        (λ _. given_fair (full_at t n q))

    space_fair : (m : Members) → FairCheck t (namespace_check t m q)
    unfolding namespace_check
    space_fair m = go (has_dot (string_at t q)) (as_text t m.namespace) (as_text_lem m.namespace)
      where
        go : (b : Bool) (s : Option ℕ) → ((w : ℕ) → s ≡ Some w → Quoted w)
            → FairCheck t (cond b (Ok tt) (on_spot s (λ w. must (is_namespace (string_at t w)) (not_a_name is_namespace t w)) (Ok tt)))
        go true s h = tt
        go false (Some w) h = rule_fair t namespace w (h w refl)
        go false None h = tt

    pub definition_fair : (n : List ℕ) (m : Members) → FairCheck t (definition_check t n m q)
    unfolding definition_check
    definition_fair n m =
        let f = defined_at t n m q in
        then_fair t (must (is_name (string_at t q)) (not_a_name is_name t q)) (namespace_check t m q then unreserved f q then kept f q) (rule_fair t name q o)
        (λ _. then_fair t (namespace_check t m q) (unreserved f q then kept f q) (space_fair m) (λ _. given_fair f))

  -- ---- symbols

  new_fair : (taken : List (List ℕ)) (qs : List ℕ) → All Quoted qs → FairCheck t (symbols_new t taken qs)
  unfolding symbols_new
  new_fair taken [] a = tt
  new_fair taken (q ∷ qs) a =
      let once = must (not (is_one_of taken (string_at t q))) (fault SymbolTwice q) in
      let more = symbols_new t (taken ++ (string_at t q ∷ [])) qs in
      then_fair t (simple_check t q) (once then more) (simple_fair q a.0)
      (λ _. then_fair t once more (must_other t (not (is_one_of taken (string_at t q))) SymbolTwice q refl) (λ _. new_fair (taken ++ (string_at t q ∷ [])) qs a.1))

  -- 13, for each of them
  abbrev texts : List ℕ → Check
  texts qs = each_of (λ q. must (is_text (shape_at t q)) (fault SymbolNotAString q)) qs

  texts_fair : (qs : List ℕ) → FairCheck t (texts qs)
  unfolding each_of
  texts_fair [] = tt
  texts_fair (q ∷ qs) =
      then_fair t (must (is_text (shape_at t q)) (fault SymbolNotAString q)) (texts qs)
      (must_other t (is_text (shape_at t q)) SymbolNotAString q refl) (λ _. texts_fair qs)

  texts_fine : (qs : List ℕ) → texts qs ≡ Ok tt → All Quoted qs
  unfolding each_of
  texts_fine [] e = tt
  texts_fine (q ∷ qs) e =
      let z = then_fine (must (is_text (shape_at t q)) (fault SymbolNotAString q)) (texts qs) e in
      (text_quoted q (must_fine (is_text (shape_at t q)) (fault SymbolNotAString q) z.0), texts_fine qs z.1)

  pub symbols_fair : (qs : List ℕ) → FairCheck t (symbols_check t qs)
  unfolding symbols_check
  symbols_fair qs =
      then_fair t (texts qs) (symbols_new t [] qs) (texts_fair qs) (λ e. new_fair [] qs (texts_fine qs e))

  pub default_fair : (s : Option ℕ) (qs : List ℕ) → FairCheck t (default_check t s qs)
  unfolding default_check
  default_fair None qs = tt
  default_fair (Some v) qs = go (is_text (shape_at t v))
    where
      go : (b : Bool) → FairCheck t (cond b (must (is_one_of (map (string_at t) qs) (string_at t v)) (fault DefaultNotASymbol v)) (Err (fault DefaultNotAString v)))
      go true = must_other t (is_one_of (map (string_at t) qs) (string_at t v)) DefaultNotASymbol v refl
      go false = other t DefaultNotAString v refl

  -- ---- fields and unions

  pub fields_fair : (taken : List (List ℕ)) (fs : List ℕ) → FairCheck t (field_names_check t taken fs)
  unfolding field_names_check
  fields_fair taken [] = tt
  fields_fair taken (f ∷ fs) =
      then_fair t (must (not (is_one_of taken (field_name t f))) (fault FieldNameTaken (field_name_at t f))) (field_names_check t (taken ++ taken_by t f) fs)
      (must_other t (not (is_one_of taken (field_name t f))) FieldNameTaken (field_name_at t f) refl) (λ _. fields_fair (taken ++ taken_by t f) fs)

  pub union_fair : (n : List ℕ) (s : Standing) (h : Head) → FairCheck t (union_check t n s h)
  unfolding union_check
  union_fair n Alone h = tt
  union_fair n (MemberOf u p) h = must_other t (not (is_union h) && is_new t n h (before p (elements t u))) UnionRuleBroken p refl

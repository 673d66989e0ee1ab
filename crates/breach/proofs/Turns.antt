-- Ways out of the functions, and turns of the loop. b is the first byte of the character at p.
-- Assumes nothing.
use mathlib.Core.Path.{◌≡◌, sym, ap, ◌∙◌}
use mathlib.Core.Bool.{Bool, true, false, cond}
use mathlib.Core.List.{List, [], ◌∷◌, ◌++◌}
use Prim.Native.Nat.{ℕ, suc, ◌+◌, ◌<◌}
use native.Mathlib.Omega.{arith}
use lib.Dec.{eqb}
use lib.ListN.{length, get_or, drop}
use borrow.Author.Tests.{eq-eqb, ne_eqb}
use Rattle.ground.specs.Ascii.{ascii}
use Rattle.ground.specs.Bytes.{byte_at}
use Rattle.name.specs.Name.{is_simple, is_dotted, is_name, is_namespace}
use Rattle.name.specs.Rule.{may_stand}
use Rattle.name.specs.Begin.{can_begin}
use Rattle.name.proofs.Bytewise.{keeps, keeps_either, keeps_on, keeps_off}
use Rattle.name.proofs.Begin.{keeps_one, stands_low, name_dot, name_joined, namespace_joined, simple_lettered}
use Rattle.view.specs.declared.strings.Piece.{Piece}
use Rattle.view.specs.Strings.{Part, is_stop, Spells}
use Rattle.view.proofs.Laws.{spells_first}
use Rattle.breach.specs.Characters.{character_at}
use Rattle.breach.specs.Breach.{breach_from, breach_at}
use Rattle.breach.proofs.Letters.{character_ahead, character_alone}
use Rattle.breach.proofs.Laws.{breach_here, breach_on, alike, alike_behind}

-- behind all of a text's characters
abbrev pub breach : (List ℕ → Bool) → List ℕ → ℕ → ℕ
breach rule t p = breach_from rule t (suc (length t)) [] p

-- ---- the rule byte by byte
pub bytewise : (dots : Bool) (t : List ℕ) (p : ℕ) → breach (keeps dots true) t p ≡ breach (cond dots is_dotted is_simple) t p
unfolding can_begin
bytewise true t p = alike (keeps true true) is_dotted t (suc (length t)) [] [] p (λ s. keeps_either true (s ++ ascii "a"))
bytewise false t p = alike (keeps false true) is_simple t (suc (length t)) [] [] p (λ s. keeps_either false (s ++ ascii "a"))

module _ (t : List ℕ) (p : ℕ) {x : Piece} (s : Spells x (character_at t p)) where
  begins_with : (character_at t p).bytes ≡ get_or x.bytes 0 0 ∷ drop 1 (character_at t p).bytes
  begins_with = spells_first s

  alone : get_or x.bytes 0 0 < 128 → (character_at t p).bytes ≡ get_or x.bytes 0 0 ∷ []
  alone h =
      begins_with ∙ ap (λ (l : List ℕ). get_or x.bytes 0 0 ∷ l) (character_alone t p (get_or x.bytes 0 0) (drop 1 (character_at t p).bytes) begins_with h)

  pub turn_ahead : p < x.next
  turn_ahead = let a = character_ahead t p in let b = ap (λ (y : Part). y.next) s.is in omega arith

  -- on to the next character: the rule that is left is another
  on_to : (f g : List ℕ → Bool) → is_stop (byte_at t p) ≡ false → get_or x.bytes 0 0 < 128 → can_begin f (get_or x.bytes 0 0 ∷ []) ≡ true
      → ((l : List ℕ) → can_begin f (get_or x.bytes 0 0 ∷ l) ≡ can_begin g l) → breach f t p ≡ breach g t x.next
  on_to f g e h b same =
      let a = alone h in
      breach_on f t [] p e (ap (λ (l : List ℕ). can_begin f l) a ∙ b)
      ∙ ap (λ (l : List ℕ). breach_from f t (suc (length t)) l (character_at t p).next) a
      ∙ ap (λ (k : ℕ). breach_from f t (suc (length t)) (get_or x.bytes 0 0 ∷ []) k) (sym (ap (λ (y : Part). y.next) s.is))
      ∙ alike f g t (suc (length t)) (get_or x.bytes 0 0 ∷ []) [] x.next same

  module _ (dots first : Bool) {r : Bool} (m : r ≡ may_stand dots first (get_or x.bytes 0 0)) where
    pub turn_broken : r ≡ false → breach (keeps dots first) t p ≡ p
    unfolding can_begin
    turn_broken e =
        breach_here (keeps dots first) t [] p
        (ap (λ (l : List ℕ). keeps dots first (l ++ ascii "a")) begins_with
        ∙ keeps_off dots first (get_or x.bytes 0 0) (drop 1 (character_at t p).bytes ++ ascii "a") (sym m ∙ e))

    pub turn_on : is_stop (byte_at t p) ≡ false → r ≡ true → breach (keeps dots first) t p ≡ breach (keeps dots (eqb (get_or x.bytes 0 0) 46)) t x.next
    unfolding can_begin
    turn_on e f =
        let b = get_or x.bytes 0 0 in
        on_to (keeps dots first) (keeps dots (eqb b 46)) e (stands_low dots first b (sym m ∙ f)) (keeps_one dots first b ∙ sym m ∙ f)
        (λ l. keeps_on dots first b (l ++ ascii "a") (sym m ∙ f))

  -- ---- a name
  pub behind_dot : is_stop (byte_at t p) ≡ false → get_or x.bytes 0 0 ≡ 46 → breach is_name t p ≡ breach is_simple t x.next
  unfolding can_begin
  behind_dot e d =
      let b = get_or x.bytes 0 0 in
      on_to is_name is_simple e (omega arith) (name_dot b (ascii "a") (eq-eqb b 46 d) ∙ simple_lettered.some) (λ l. name_dot b (l ++ ascii "a") (eq-eqb b 46 d))

  pub no_dot : (get_or x.bytes 0 0 ≡ 46 → ⊥) → breach is_name t p ≡ breach is_dotted t p
  unfolding can_begin
  no_dot n =
      alike_behind is_name is_dotted t (length t) p
      (λ l. ap (λ (k : List ℕ). is_name ((k ++ l) ++ ascii "a")) begins_with
      ∙ name_joined (get_or x.bytes 0 0) ((drop 1 (character_at t p).bytes ++ l) ++ ascii "a") (ne_eqb (get_or x.bytes 0 0) 46 n)
      ∙ ap (λ (k : List ℕ). is_dotted ((k ++ l) ++ ascii "a")) (sym begins_with))

-- ---- a namespace
pub joined_namespace : (t : List ℕ) (p : ℕ) → breach is_dotted t p ≡ breach is_namespace t p
unfolding can_begin
joined_namespace t p = alike is_dotted is_namespace t (suc (length t)) [] [] p (λ s. sym (namespace_joined s 97 []))

-- ---- the string at q
module _ (rule : List ℕ → Bool) (t : List ℕ) (q : ℕ) {b : ℕ} (e : b ≡ byte_at t q) where
  pub at_quote : b ≡ 34 → {r : ℕ} → r ≡ breach rule t (q + 1) → r ≡ breach_at rule t q
  unfolding breach_at
  at_quote f h = h ∙ rw (← e, eq-eqb b 34 f)

  pub no_quote : (b ≡ 34 → ⊥) → q ≡ breach_at rule t q
  unfolding breach_at
  no_quote n = rw (← e, ne_eqb b 34 n)

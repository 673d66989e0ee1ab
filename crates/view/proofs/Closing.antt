-- Laws of the ends of strings and brackets, a byte at a time.
-- Assumes nothing.
use mathlib.Core.Path.{◌≡◌, refl, sym, ap, ◌∙◌}
use mathlib.Core.Bool.{Bool, true, false, cond, ◌&&◌, ◌||◌}
use mathlib.Core.List.{List, [], ◌∷◌}
use Prim.Native.Nat.{ℕ, zero, suc, ◌+◌, ◌<◌, ◌≤◌}
use native.Mathlib.Omega.{arith}
use lib.Dec.{eqb}
use lib.ListN.{length, get_or, drop}
use lib.Seq.{drop-drop}
use borrow.Author.Tests.{ne_eqb, eqb-true}
use Rattle.ground.specs.Bytes.{byte_at}
use Rattle.view.specs.Ends.{mode_after, depth_after, at_rest, to_rest, closing_of, is_block, literal_end, end_of}
use Rattle.view.proofs.Places.{never, in_text, class_in_text, closing_out, closing_rest, closing_more, end_block, end_literal}

-- ---- when all is closed
inside : (m d : ℕ) → (m ≡ 0 → ⊥) → at_rest m d ≡ false
unfolding at_rest
inside m d n = rw (ne_eqb m 0 n)

nested : (m d : ℕ) → 0 < d → at_rest m d ≡ false
unfolding at_rest
nested m d h = rw (ne_eqb d 0 (λ (e : d ≡ 0). omega arith)) (go (eqb m 0))
  where
    go : (x : Bool) → (x && false) ≡ false
    go true = refl
    go false = refl

closed : at_rest 0 0 ≡ true
unfolding at_rest
closed = refl

-- ---- a string within brackets: past the string, and on from there
string_depth : (m b d : ℕ) → (m ≡ 0 → ⊥) → depth_after m b d ≡ d
unfolding depth_after
string_depth m b d n = rw (ne_eqb m 0 n)

module _ (d : ℕ) (h : 0 < d) where
  through : (l : List ℕ) (m : ℕ) → (m ≡ 0 → ⊥) → to_rest m d l ≡ to_rest m 0 l + to_rest 0 d (drop (to_rest m 0 l) l)
  unfolding to_rest
  through [] m n = omega arith
  through (b ∷ bs) m n = rw (string_depth m b d n, string_depth m b 0 n) (go (λ k o. through bs k o) (mode_after m b))
    where
      go : ((k : ℕ) → (k ≡ 0 → ⊥) → to_rest k d bs ≡ to_rest k 0 bs + to_rest 0 d (drop (to_rest k 0 bs) bs))
          → (k : ℕ) → cond (at_rest k d) 1 (suc (to_rest k d bs)) ≡ cond (at_rest k 0) 1 (suc (to_rest k 0 bs)) + to_rest 0 d (drop (cond (at_rest k 0) 1 (suc (to_rest k 0 bs))) (b ∷ bs))
      go on zero = rw (nested 0 d h, closed) (omega arith)
      go on (suc k) = rw (inside (suc k) d (λ e. omega arith), inside (suc k) 0 (λ e. omega arith)) (let i = on (suc k) (λ e. omega arith) in omega arith)

  past_string : (t : List ℕ) (p : ℕ) → closing_of t 0 d (closing_of t 1 0 p) ≡ closing_of t 1 d p
  unfolding closing_of
  past_string t p =
      let i = through (drop p t) 1 (λ e. omega arith) in
      let f = ap (λ (l : List ℕ). to_rest 0 d l) (drop-drop (to_rest 1 0 (drop p t)) p t) in
      omega arith

-- ---- in a string
module _ (t : List ℕ) (p : ℕ) (h : p < length t) where
  pub string_quote : get_or t p 0 ≡ 34 → p + 1 ≡ closing_of t 1 0 p
  unfolding mode_after depth_after
  string_quote e = closing_rest t 1 0 p h {m1 = 0} {d1 = 0} (rw e) refl closed

  pub string_byte : (get_or t p 0 ≡ 34 → ⊥) → (get_or t p 0 ≡ 92 → ⊥) → closing_of t 1 0 (p + 1) ≡ closing_of t 1 0 p
  unfolding mode_after depth_after
  string_byte n k = closing_more t 1 0 p h {m1 = 1} {d1 = 0} (rw (ne_eqb (get_or t p 0) 34 n, ne_eqb (get_or t p 0) 92 k)) refl (inside 1 0 (λ e. omega arith))

  pub string_letter : 92 < get_or t p 0 → closing_of t 1 0 (p + 1) ≡ closing_of t 1 0 p
  string_letter l = string_byte (λ (e : get_or t p 0 ≡ 34). omega arith) (λ (e : get_or t p 0 ≡ 92). omega arith)

  slash : get_or t p 0 ≡ 92 → closing_of t 2 0 (p + 1) ≡ closing_of t 1 0 p
  unfolding mode_after depth_after
  slash e = closing_more t 1 0 p h {m1 = 2} {d1 = 0} (rw e) refl (inside 2 0 (λ e. omega arith))

slashed : (t : List ℕ) (p : ℕ) → p < length t → closing_of t 1 0 (p + 1) ≡ closing_of t 2 0 p
unfolding mode_after depth_after
slashed t p h = closing_more t 2 0 p h {m1 = 1} {d1 = 0} refl refl (inside 1 0 (λ e. omega arith))

module _ (t : List ℕ) (p : ℕ) (h : p < length t) (e : get_or t p 0 ≡ 92) where
  -- a backslash takes the byte behind it along
  pub string_slash : p + 1 < length t → closing_of t 1 0 (p + 1 + 1) ≡ closing_of t 1 0 p
  string_slash l = slashed t (p + 1) l ∙ slash t p h e

  pub string_cut : length t ≤ p + 1 → closing_of t 1 0 (p + 1) ≡ closing_of t 1 0 p
  string_cut l = sym (closing_out t 1 0 (p + 1) l) ∙ closing_out t 2 0 (p + 1) l ∙ slash t p h e

-- ---- in brackets
pub closing_ahead : (t : List ℕ) (m d p q : ℕ) → q ≡ closing_of t m d p → p ≤ q
unfolding closing_of
closing_ahead t m d p q e = omega arith

module _ (t : List ℕ) (d p : ℕ) (h : p < length t) where
  pub bracket_string : 0 < d → get_or t p 0 ≡ 34 → (q : ℕ) → q ≡ closing_of t 1 0 (p + 1) → closing_of t 0 d q ≡ closing_of t 0 d p
  unfolding mode_after depth_after
  bracket_string l e q f = rw f (past_string d l t (p + 1)) ∙ closing_more t 0 d p h {m1 = 1} {d1 = d} (rw e) (rw e) (inside 1 d (λ e. omega arith))

  mode_kept : (get_or t p 0 ≡ 34 → ⊥) → 0 ≡ mode_after 0 (get_or t p 0)
  unfolding mode_after
  mode_kept n = rw (ne_eqb (get_or t p 0) 34 n)

  -- what stands below all brackets
  pub bracket_none : 0 < d → (get_or t p 0 ≡ 34 → ⊥) → get_or t p 0 < 91 → closing_of t 0 d (p + 1) ≡ closing_of t 0 d p
  unfolding depth_after
  bracket_none l n k =
      closing_more t 0 d p h (mode_kept n)
      (rw (ne_eqb (get_or t p 0) 91 (λ (e : get_or t p 0 ≡ 91). omega arith), ne_eqb (get_or t p 0) 123 (λ (e : get_or t p 0 ≡ 123). omega arith), ne_eqb (get_or t p 0) 93 (λ (e : get_or t p 0 ≡ 93). omega arith), ne_eqb (get_or t p 0) 125 (λ (e : get_or t p 0 ≡ 125). omega arith)))
      (nested 0 d l)

  module _ (n : get_or t p 0 ≡ 34 → ⊥) (x : ℕ) (e : x ≡ depth_after 0 (get_or t p 0) d) where
    pub bracket_last : x ≡ 0 → p + 1 ≡ closing_of t 0 d p
    bracket_last z = closing_rest t 0 d p h (mode_kept n) e (rw z closed)

    pub bracket_more : (x ≡ 0 → ⊥) → closing_of t 0 x (p + 1) ≡ closing_of t 0 d p
    bracket_more z = closing_more t 0 d p h (mode_kept n) e (nested 0 x (omega arith))

-- ---- the value at p, by its first byte
module _ (t : List ℕ) (p b : ℕ) (e : b ≡ byte_at t p) where
  pub end_string : b ≡ 34 → closing_of t 1 0 (p + 1) ≡ end_of t p
  unfolding is_block byte_at mode_after depth_after
  end_string f =
      let l = in_text t p b 34 e f (omega arith) in
      closing_more t 0 0 p l {m1 = 1} {d1 = 0} (rw (← e, f)) (rw (← e, f)) (inside 1 0 (λ e. omega arith)) ∙ end_block t p b e (rw f)

  open_first : (x : ℕ) → b ≡ x → 0 < x → 0 ≡ mode_after 0 x → 1 ≡ depth_after 0 x 0 → is_block x ≡ true → closing_of t 0 1 (p + 1) ≡ end_of t p
  unfolding byte_at
  open_first x f h m d i =
      closing_more t 0 0 p (in_text t p b x e f h) {m1 = 0} {d1 = 1} (rw (← e, f) m) (rw (← e, f) d) (nested 0 1 (omega arith)) ∙ end_block t p b e (rw f i)

  pub end_bracket : (eqb b 91 || eqb b 123) ≡ true → closing_of t 0 1 (p + 1) ≡ end_of t p
  unfolding is_block mode_after depth_after
  end_bracket f = go (eqb b 91) refl (eqb b 123) refl f
    where
      go : (x : Bool) → eqb b 91 ≡ x → (y : Bool) → eqb b 123 ≡ y → (x || y) ≡ true → closing_of t 0 1 (p + 1) ≡ end_of t p
      go true g y h o = open_first 91 (eqb-true b 91 g) (omega arith) refl refl refl
      go false g true h o = open_first 123 (eqb-true b 123 h) (omega arith) refl refl refl
      go false g false h o = never o

  pub bracket_in_text : (eqb b 91 || eqb b 123) ≡ true → p < length t
  bracket_in_text f = class_in_text (λ (x : ℕ). eqb x 91 || eqb x 123) refl t p b e f

  pub end_other : (b ≡ 34 → ⊥) → (eqb b 91 || eqb b 123) ≡ false → literal_end t p ≡ end_of t p
  unfolding is_block
  end_other n f = end_literal t p b e (rw (ne_eqb b 34 n) f)

-- Values that are no brackets, by the views. Assumes nothing.
use mathlib.Core.Path.{◌≡◌, refl, sym, ap, ap₂, ◌∙◌}
use mathlib.Core.Bool.{true, false}
use mathlib.Core.List.{List, ◌∷◌, ◌++◌}
use Prim.Native.Nat.{ℕ, suc, ◌+◌, ◌-◌}
use native.Mathlib.Omega.{arith}
use lib.ListN.{length, drop}
use lib.Seq.{take_at}
use Rattle.json_scan.specs.Json.{is_space}
use Rattle.ground.specs.Bytes.{byte_at, part}
use Rattle.view.specs.Values.{skip_of, shape_of, is_value, starts_value}
use Rattle.view.specs.Ends.{end_of}
use Rattle.view.specs.Strings.{string_at}
use Rattle.view.specs.declared.shape.Shape.{Shape}
use Rattle.view.specs.declared.shape.Shape.TheVariants.{Text, Number, Word}
use Rattle.viewed.proofs.Values.{byte_here}
use Rattle.grammar.specs.Grammar.{bytes, join, number, string}
use Rattle.tree.specs.Characters.{string_of}
use Rattle.tree.specs.Tree.{Tree, a_word, a_number, a_text, size_in, word_of, number_of, text_of}
use Rattle.tree.specs.Seen.{shown, shown_as, text_at}
use Rattle.tree.proofs.Standing.{Stops, skip_none}
use Rattle.tree.proofs.Strings.{string_seen}
use Rattle.tree.proofs.Tokens.{number_leads, number_end, size_seen}
use Rattle.tree.proofs.Frames.{string_end}

-- the bytes s at p are a value: past white space the views show the tree x, n values deep, and it ends where s does, but for white space
pub record Shows (t : List ℕ) (n p : ℕ) (s : List ℕ) (x : Tree) : Type 0 where
  pub starts : starts_value (byte_at t (skip_of t p)) ≡ true
  pub tree : x ≡ shown t (suc n) (skip_of t p)
  pub ended : skip_of t (end_of t (skip_of t p)) ≡ skip_of t (p + length s)

module _ (t : List ℕ) (n p : ℕ) where
  -- the bytes of a value that ends where s does
  pub bytes_at_lem : (s u : List ℕ) → drop p t ≡ s ++ u → end_of t p ≡ p + length s → part t p (end_of t p - p) ≡ s
  unfolding part
  bytes_at_lem s u e h = let l : end_of t p - p ≡ length s = omega arith in rw (l, e) (take_at s u (length s) refl)

  -- no white space before it
  solid : (b : ℕ) (s r : List ℕ) (x : Tree) → is_space b ≡ false → drop p t ≡ b ∷ r → starts_value b ≡ true → x ≡ shown t (suc n) p → end_of t p ≡ p + length s → Shows t n p s x
  solid b s r x k e v h f =
      let q : skip_of t p ≡ p = skip_none t p k e in
      let c : byte_at t p ≡ b = byte_here t p b r e in
      record { starts = ap (λ (y : ℕ). starts_value (byte_at t y)) q ∙ ap starts_value c ∙ v; tree = h ∙ ap (shown t (suc n)) (sym q); ended = ap (λ (y : ℕ). skip_of t (end_of t y)) q ∙ ap (skip_of t) f }

  -- shown by its first byte
  as_shape : (b : ℕ) (r : List ℕ) (k : Shape) → drop p t ≡ b ∷ r → shape_of b ≡ k → shown_as t (shown t n) k p ≡ shown t (suc n) p
  unfolding shown
  as_shape b r k e h = ap (λ (y : Shape). shown_as t (shown t n) y p) (sym (ap shape_of (byte_here t p b r e) ∙ h))

  pub shows_string : {s : List ℕ} (d : string s) (u : List ℕ) → drop p t ≡ s ++ u → Shows t n p s (text_of s p d)
  unfolding shown_as shape_of is_value text_of text_at
  shows_string d u e = on d e (string_seen t p d u e) (string_end t p d u e)
    where
      on : {s : List ℕ} (d : string s) → drop p t ≡ s ++ u → string_at t p ≡ string_of d → end_of t p ≡ p + length s → Shows t n p s (text_of s p d)
      on (join {t = r} bytes c) e h f = solid 34 (34 ∷ r) (r ++ u) _ refl e refl (ap₂ (a_text p) (sym f) (sym h) ∙ as_shape 34 (r ++ u) Text e refl) f

  pub shows_word : (b : ℕ) (r u : List ℕ) → is_space b ≡ false → shape_of b ≡ Word → drop p t ≡ (b ∷ r) ++ u → end_of t p ≡ p + length (b ∷ r) → Shows t n p (b ∷ r) (word_of (b ∷ r) p)
  unfolding shown_as is_value word_of
  shows_word b r u k h e f = solid b (b ∷ r) (r ++ u) _ k e (ap is_value h) (ap₂ (a_word p) (sym f) (sym (bytes_at_lem (b ∷ r) u e f)) ∙ as_shape b (r ++ u) Word e h) f

  pub shows_number : {s : List ℕ} (d : number s) (u : List ℕ) → drop p t ≡ s ++ u → Stops u → Shows t n p s (number_of s p d)
  unfolding shown_as is_value number_of
  shows_number {s} d u e k =
      let l = number_leads d in
      let f = number_end t p d u e k in
      let g : drop p t ≡ l.first ∷ (l.others ++ u) = e ∙ ap (λ (y : List ℕ). y ++ u) l.is in
      solid l.first s (l.others ++ u) _ l.solid g (ap is_value l.number)
      (ap (λ (z : ℕ). a_number p z s (size_in d)) (sym f) ∙ ap₂ (a_number p (end_of t p)) (sym (bytes_at_lem s u e f)) (sym (size_seen t p d u e k)) ∙ as_shape l.first (l.others ++ u) Number g l.number) f

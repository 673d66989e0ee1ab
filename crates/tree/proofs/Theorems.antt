-- The views are the grammar's. Assumes nothing.
-- Whichever way the grammar derives a text, the tree that the derivation says is the tree that the views show (`text_shown`): a value's kind and place, a string's
-- characters, a number's size, all values of an array and all members of an object in their order, none lost and none twice, at every depth. So a text that the
-- scan finds whole has one tree (`scanned_tree`, `one_tree`), and all strings in it are UTF-8 (`all_utf8`).
use mathlib.Core.Path.{◌≡◌, refl, sym, ap, ap₂, ◌∙◌}
use mathlib.Core.Bool.{true}
use mathlib.Core.List.{List, [], ◌∷◌, ◌++◌, map, append-nil}
use Prim.Native.Nat.{ℕ, zero, suc, ◌+◌}
use native.Mathlib.Omega.{arith}
use lib.ListN.{length, drop}
use lib.Seq.{drop_at}
use Rattle.std.specs.Prelude.{Ok}
use Rattle.json_scan.specs.Json.{deepest, verdict}
use Rattle.ground.specs.Bytes.{byte_at}
use Rattle.view.specs.Values.{skip_of, value_start, shape_of, is_value, starts_value}
use Rattle.view.specs.Ends.{end_of, is_block, is_delimiter, at_rest, mode_after, depth_after}
use Rattle.view.specs.Elements.{first_element, elements, elements_at, value_from}
use Rattle.view.specs.Members.{first_key, key_from, keys_at, members_at, member_of as member-at}
use Rattle.view.specs.declared.shape.Shape.{Shape}
use Rattle.view.specs.declared.shape.Shape.TheVariants.{Array, Object}
use Rattle.grammar.specs.Grammar.{bytes, ◌·◌, join, this, that, Optional, Many, value_separator, member, object, array, value, false as false-word, null as null_word, true as true-word, JSON_text}
use Rattle.grammar.proofs.Theorems.{accepted_is_grammar}
use Rattle.tree.specs.Tree.{Tree, word_of, an_array, an_object, array_of, object_of, tree_of, text_tree, InUtf8}
use Rattle.tree.specs.Seen.{shown, shown_as, shown_all, shown_members}
use Rattle.tree.proofs.Standing.{Stops, skip_over, stops_space}
use Rattle.tree.proofs.Rests.{run_byte, run_values, run_members}
use Rattle.tree.proofs.Tokens.{word_end}
use Rattle.tree.proofs.Frames.{Framed, framed}
use Rattle.tree.proofs.Values.{Shows, shows_string, shows_word, shows_number}
use Rattle.tree.proofs.Lists.{Sees, values_shown, members_shown}
use Rattle.tree.proofs.Octets.{value_utf8}

-- ---- the words
module _ (t : List ℕ) (n p : ℕ) (u : List ℕ) (k : Stops u) where
  shows_false : {s : List ℕ} → false-word s → drop p t ≡ s ++ u → Shows t n p s (word_of s p)
  unfolding shape_of is_block is_delimiter
  shows_false bytes e = shows_word t n p 102 (97 ∷ 108 ∷ 115 ∷ 101 ∷ []) u refl refl e (word_end t p 102 (97 ∷ 108 ∷ 115 ∷ 101 ∷ []) u (refl, (refl, (refl, (refl, (refl, tt))))) refl e k)

  shows_null : {s : List ℕ} → null_word s → drop p t ≡ s ++ u → Shows t n p s (word_of s p)
  unfolding shape_of is_block is_delimiter
  shows_null bytes e = shows_word t n p 110 (117 ∷ 108 ∷ 108 ∷ []) u refl refl e (word_end t p 110 (117 ∷ 108 ∷ 108 ∷ []) u (refl, (refl, (refl, (refl, tt)))) refl e k)

  shows_true : {s : List ℕ} → true-word s → drop p t ≡ s ++ u → Shows t n p s (word_of s p)
  unfolding shape_of is_block is_delimiter
  shows_true bytes e = shows_word t n p 116 (114 ∷ 117 ∷ 101 ∷ []) u refl refl e (word_end t p 116 (114 ∷ 117 ∷ 101 ∷ []) u (refl, (refl, (refl, (refl, tt)))) refl e k)

-- ---- brackets
module _ (t : List ℕ) (n p : ℕ) (u : List ℕ) (see : Sees t n) where
  -- shown by the bracket at `at`, where the brackets hold what is shown
  bracketed : (x : ℕ) (k : Shape) {s b m z : List ℕ} {at to : ℕ} {y : Tree} → shape_of x ≡ k → is_value k ≡ true → Framed t p x s b m z u at to → y ≡ shown_as t (shown t (suc n)) k at → Shows t (suc n) p s y
  unfolding shown
  bracketed x k {s} {at = at} {y = y} h v f e =
      let j : shape_of (byte_at t at) ≡ k = ap shape_of f.opens ∙ h in
      record {
        starts = ap (λ (q : ℕ). starts_value (byte_at t q)) f.place ∙ ap is_value j ∙ v;
        tree = e ∙ ap (λ (q : Shape). shown_as t (shown t (suc n)) q at) (sym j) ∙ ap (shown t (suc (suc n))) (sym f.place);
        ended = ap (λ (q : ℕ). skip_of t (end_of t q)) f.place ∙ f.behind;
      }

  first_value : (at : ℕ) → byte_at t at ≡ 91 → elements_at t (value_from t (at + 1)) ≡ elements t at
  unfolding elements first_element
  first_value at h = rw h

  first_member : (at : ℕ) → byte_at t at ≡ 123 → map (member-at t) (keys_at t (key_from t (at + 1))) ≡ members_at t at
  unfolding members_at first_key
  first_member at h = rw h

  shows_array : {s : List ℕ} (d : array (value n) s) → drop p t ≡ s ++ u → Shows t (suc n) p s (array_of (tree_of n) p d)
  unfolding array_of shown_as shape_of is_value is_block at_rest mode_after depth_after
  shows_array (join {s = b} (join {s = w} dw (join {t = w₂} bytes dw₂)) (join {s = m} dm (join {s = w₃} dw₃ (join {t = w₄} bytes dw₄)))) e =
      let f = framed t p 91 93 (Optional (value n · Many (value_separator · value n))) w w₂ m w₃ w₄ u dw dw₂ dm dw₃ dw₄ e refl (run_byte 91 refl refl refl) (run_values n 0) refl refl in
      bracketed 91 Array refl refl f
      (ap₂ (an_array (p + length w)) (sym f.end)
      (values_shown t n see dm (p + length (w ++ (91 ∷ w₂))) (p + length w + 1) (join dw₃ (join bytes dw₄)) u f.holds f.inside
      ∙ ap (shown_all t (shown t (suc n))) (first_value (p + length w) f.opens)))

  shows_object : {s : List ℕ} (d : object (value n) s) → drop p t ≡ s ++ u → Shows t (suc n) p s (object_of (tree_of n) p d)
  unfolding object_of shown_as shape_of is_value is_block at_rest mode_after depth_after
  shows_object (join {s = b} (join {s = w} dw (join {t = w₂} bytes dw₂)) (join {s = m} dm (join {s = w₃} dw₃ (join {t = w₄} bytes dw₄)))) e =
      let f = framed t p 123 125 (Optional (member (value n) · Many (value_separator · member (value n)))) w w₂ m w₃ w₄ u dw dw₂ dm dw₃ dw₄ e refl (run_byte 123 refl refl refl) (run_members n 0) refl refl in
      bracketed 123 Object refl refl f
      (ap₂ (an_object (p + length w)) (sym f.end)
      (members_shown t n see dm (p + length (w ++ (123 ∷ w₂))) (p + length w + 1) (join dw₃ (join bytes dw₄)) u f.holds f.inside
      ∙ ap (shown_members t (shown t (suc n))) (first_member (p + length w) f.opens)))

-- ---- values, by the depth of their brackets
pub value_shown : (t : List ℕ) (n : ℕ) → Sees t n
unfolding value tree_of
value_shown t zero s p u (this d) e k = shows_false t 0 p u k d e
value_shown t zero s p u (that (this d)) e k = shows_null t 0 p u k d e
value_shown t zero s p u (that (that (this d))) e k = shows_true t 0 p u k d e
value_shown t zero s p u (that (that (that (this d)))) e k = shows_number t 0 p d u e k
value_shown t zero s p u (that (that (that (that d)))) e k = shows_string t 0 p d u e
value_shown t (suc n) s p u (this d) e k = shows_false t (suc n) p u k d e
value_shown t (suc n) s p u (that (this d)) e k = shows_null t (suc n) p u k d e
value_shown t (suc n) s p u (that (that (this d))) e k = shows_true t (suc n) p u k d e
value_shown t (suc n) s p u (that (that (that (this d)))) e k = shows_object t n p u (value_shown t n) d e
value_shown t (suc n) s p u (that (that (that (that (this d))))) e k = shows_array t n p u (value_shown t n) d e
value_shown t (suc n) s p u (that (that (that (that (that (this d)))))) e k = shows_number t (suc n) p d u e k
value_shown t (suc n) s p u (that (that (that (that (that (that d)))))) e k = shows_string t (suc n) p d u e

-- ---- texts
-- THE VIEWS: the tree of any derivation of a text is the tree that the views of it show, from the place of its one value on
pub text_shown : (n : ℕ) (t : List ℕ) (d : JSON_text n t) → text_tree n t d ≡ shown t (suc n) (value_start t)
unfolding text_tree
text_shown n t (join {s = w} dw (join {s = v} {t = w'} d dw')) =
    let a : drop 0 (w ++ (v ++ w')) ≡ w ++ (v ++ w') = refl in
    let b : drop (length w) (w ++ (v ++ w')) ≡ v ++ (w' ++ []) = drop_at w (v ++ w') (length w) refl ∙ ap (λ (y : List ℕ). v ++ y) (sym (append-nil w')) in
    let h = value_shown (w ++ (v ++ w')) n v (length w) (w' ++ []) d b (stops_space dw') in
    let z : 0 + length w ≡ length w = omega arith in
    h.tree ∙ ap (shown (w ++ (v ++ w')) (suc n)) (sym (skip_over (w ++ (v ++ w')) 0 (v ++ w') dw a ∙ ap (skip_of (w ++ (v ++ w'))) z))

-- so it has one tree
pub one_tree : (n : ℕ) (t : List ℕ) (d e : JSON_text n t) → text_tree n t d ≡ text_tree n t e
one_tree n t d e = text_shown n t d ∙ sym (text_shown n t e)

-- and a text that the scan finds whole has a derivation
pub scanned_tree : (t : List ℕ) → verdict t ≡ Ok tt → (d : JSON_text deepest t) × (text_tree deepest t d ≡ shown t (suc deepest) (value_start t))
scanned_tree t h = let d = accepted_is_grammar t h in (d, text_shown deepest t d)

-- and all strings in it are UTF-8
pub all_utf8 : (n : ℕ) (t : List ℕ) (d : JSON_text n t) → InUtf8 (text_tree n t d)
unfolding text_tree
all_utf8 n t (join {s = w} dw (join {s = v} d dw')) = value_utf8 n v (length w) d

-- A value of a text that the scan finds whole, cut out of it, is itself a text that the scan finds whole (`value_whole`).
-- It is not empty, it ends within the text, and neither its first byte nor its last is white space (`value_cut`).
-- The way: what the automaton reads there is a value of the grammar, and its bytes are those up to the end that the view finds.
-- Assumes nothing.
use mathlib.Core.Path.{◌≡◌, refl, sym, ap, subst, ◌∙◌}
use mathlib.Core.Bool.{Bool, true, false, cond, not, ◌||◌}
use mathlib.Core.List.{List, [], ◌∷◌, ◌++◌, append_assoc, append-nil}
use Prim.Native.Nat.{ℕ, zero, suc, ◌+◌, ◌-◌, ◌≤◌, ◌<◌}
use native.Mathlib.Omega.{arith}
use lib.Dec.{eqb}
use lib.ListN.{length, drop, length-append, length-drop}
use Rattle.std.specs.Prelude.{Ok}
use Rattle.json_scan.specs.Json.{Stack, square, brace, val, deepest, is_space, verdict}
use Rattle.json_scan.specs.Meets.{run_at}
use Rattle.ground.specs.Bytes.{byte_at, part}
use Rattle.ground.proofs.Laws.{never}
use Rattle.view.specs.Values.{count, skip_of}
use Rattle.view.specs.Ends.{end_of, is_block, is_token, is_delimiter, at_rest, mode_after, depth_after}
use Rattle.viewed.proofs.Scanned.{Scanned, drop_here, more as goes_on}
use Rattle.grammar.specs.Grammar.{bytes, ◌·◌, join, this, that, Optional, Many, none, value_separator, member, object, array, number, string, value, false as false-word, null as null_word, true as true-word, JSON_text}
use Rattle.grammar.proofs.Rests.{After, over, space, close, comma, Left}
use Rattle.grammar.proofs.Theorems.{read_is_grammar, nested_is_accepted}
use Rattle.tree.proofs.Standing.{Stops, past, skip_over, skip_none}
use Rattle.tree.proofs.Rests.{run_byte, run_values, run_members}
use Rattle.tree.proofs.Tokens.{AllTokens, Leads, number_leads, number_tokens, number_end, word_end}
use Rattle.tree.proofs.Frames.{framed, string_end}
use Rattle.tree.proofs.Values.{bytes_at_lem}

-- ---- white space ends a word and a number
token_solid : (b : ℕ) → is_delimiter b ≡ false → is_space b ≡ false
unfolding is_delimiter
token_solid b h = go (eqb b 44 || eqb b 93 || eqb b 125) (is_space b) h
  where
    go : (x y : Bool) → (x || y) ≡ false → y ≡ false
    go true y e = never (sym e)
    go false y e = e

-- and so does all that may follow a value
after_stops : {k : Stack} {u : List ℕ} → After deepest k u → Stops u
unfolding count is_delimiter
after_stops over = refl
after_stops (space {b} {s = u} h a) = go (is_delimiter b) refl
  where
    go : (x : Bool) → is_delimiter b ≡ x → cond (not x) (suc (count is_token u)) 0 ≡ 0
    go true i = refl
    go false i = never (sym (token_solid b i) ∙ h)
after_stops (close {x = square} a) = refl
after_stops (close {x = brace} a) = refl
after_stops (comma i w d a) = refl

-- ---- the last byte
last_of_lem : (b : ℕ) (a : List ℕ) (y : ℕ) → byte_at (b ∷ (a ++ (y ∷ []))) (length (a ++ (y ∷ []))) ≡ y
unfolding byte_at
last_of_lem b [] y = refl
last_of_lem b (c ∷ a) y = last_of_lem c a y

-- where no byte is a delimiter
last_token : (b : ℕ) (r : List ℕ) → count is_token (b ∷ r) ≡ suc (length r) → is_space (byte_at (b ∷ r) (length r)) ≡ false
unfolding count byte_at
last_token b [] h = go (is_delimiter b) refl 0 h
  where
    go : (x : Bool) → is_delimiter b ≡ x → (m : ℕ) → cond (not x) (suc m) 0 ≡ suc m → is_space b ≡ false
    go true i m e = absurd (omega arith)
    go false i m e = token_solid b i
last_token b (c ∷ r) h = last_token c r (go (is_delimiter b) (count is_token (c ∷ r)) h)
  where
    go : (x : Bool) (m : ℕ) → cond (not x) (suc m) 0 ≡ suc (suc (length r)) → m ≡ suc (length r)
    go true m e = absurd (omega arith)
    go false m e = omega arith

-- ---- the value at p, cut out of t: its bytes are those from p up to its end
pub record Cut (t : List ℕ) (p : ℕ) : Type 0 where
  pub some : p < end_of t p
  pub within : end_of t p ≤ length t
  pub first : is_space (byte_at (part t p (end_of t p - p)) 0) ≡ false
  pub last : is_space (byte_at (part t p (end_of t p - p)) (length (part t p (end_of t p - p)) - 1)) ≡ false
  pub whole : verdict (part t p (end_of t p - p)) ≡ Ok tt

module _ (t : List ℕ) (n : ℕ) (room : n ≤ deepest) (p : ℕ) where
  -- a value of the grammar that stands at q, past the white space at p, and ends where the view says
  taken : (q b : ℕ) (r u : List ℕ) → skip_of t p ≡ q → value n (b ∷ r) → drop q t ≡ (b ∷ r) ++ u → end_of t q ≡ q + length (b ∷ r)
      → is_space b ≡ false → is_space (byte_at (b ∷ r) (length r)) ≡ false → Cut t (skip_of t p)
  unfolding byte_at
  taken q b r u at d e h f l =
      let c : part t q (end_of t q - q) ≡ b ∷ r = bytes_at_lem t n q (b ∷ r) u e h in
      let j : JSON_text n ((b ∷ r) ++ []) = join none (join d none) in
      let g : length t - q ≡ length (b ∷ r) + length u = sym (length-drop q t) ∙ ap length e ∙ length-append (b ∷ r) u in
      let i : length (b ∷ r) - 1 ≡ length r = omega arith in
      subst (λ (y : ℕ). Cut t y) (sym at)
      (record {
        some = omega arith;
        within = omega arith;
        first = ap (λ (y : List ℕ). is_space (byte_at y 0)) c ∙ f;
        last = ap (λ (y : List ℕ). is_space (byte_at y (length y - 1))) c ∙ ap (λ (y : ℕ). is_space (byte_at (b ∷ r) y)) i ∙ l;
        whole = ap verdict c ∙ nested_is_accepted n room (b ∷ r) (subst (JSON_text n) (append-nil (b ∷ r)) j);
      })

  -- ---- by its kind
  word_cut : (b : ℕ) (r u : List ℕ) → value n (b ∷ r) → AllTokens (b ∷ r) → is_block b ≡ false → is_space b ≡ false → is_space (byte_at (b ∷ r) (length r)) ≡ false
      → drop p t ≡ (b ∷ r) ++ u → Stops u → Cut t (skip_of t p)
  word_cut b r u d h k f l e z = taken p b r u (skip_none t p f e) d e (word_end t p b r u h k e z) f l

  number_cut : {s : List ℕ} (u : List ℕ) → value n s → number s → drop p t ≡ s ++ u → Stops u → Cut t (skip_of t p)
  number_cut u d m e z = go (number_leads m) d e (number_end t p m u e z) (number_tokens m)
    where
      go : {s : List ℕ} → Leads s → value n s → drop p t ≡ s ++ u → end_of t p ≡ p + length s → count is_token s ≡ length s → Cut t (skip_of t p)
      go l d e h c =
          let i = l.is in
          let e' : drop p t ≡ (l.first ∷ l.others) ++ u = e ∙ ap (λ (y : List ℕ). y ++ u) i in
          taken p l.first l.others u (skip_none t p l.solid e') (subst (value n) i d) e' (h ∙ ap (λ (y : List ℕ). p + length y) i) l.solid
          (last_token l.first l.others (sym (ap (count is_token) i) ∙ c ∙ ap length i))

  string_cut : {s : List ℕ} (u : List ℕ) → value n s → string s → drop p t ≡ s ++ u → Cut t (skip_of t p)
  string_cut u d m e = go m d e (string_end t p m u e)
    where
      go : {s : List ℕ} → string s → value n s → drop p t ≡ s ++ u → end_of t p ≡ p + length s → Cut t (skip_of t p)
      go (join bytes (join {s = c} k bytes)) d e h = taken p 34 (c ++ (34 ∷ [])) u (skip_none t p refl e) d e h refl (ap is_space (last_of_lem 34 c 34))

  -- brackets x and y: without the white space around them
  bracket_cut : (x y : ℕ) (w w₂ m w₃ w₄ u : List ℕ) → value n (x ∷ (w₂ ++ (m ++ (w₃ ++ (y ∷ []))))) → is_space x ≡ false → is_space y ≡ false
      → drop p t ≡ ((w ++ (x ∷ w₂)) ++ (m ++ (w₃ ++ (y ∷ w₄)))) ++ u
      → skip_of t p ≡ p + length w → end_of t (p + length w) ≡ p + length (w ++ (x ∷ w₂)) + length m + length w₃ + 1 → Cut t (skip_of t p)
  bracket_cut x y w w₂ m w₃ w₄ u d f g e at h =
      let r = w₂ ++ (m ++ (w₃ ++ (y ∷ []))) in
      let a : ((w ++ (x ∷ w₂)) ++ (m ++ (w₃ ++ (y ∷ w₄)))) ++ u ≡ w ++ ((x ∷ r) ++ (w₄ ++ u)) = simp append_assoc in
      let l : p + length (w ++ (x ∷ w₂)) + length m + length w₃ + 1 ≡ p + length w + length (x ∷ r) = simp length-append (omega arith) in
      let c : r ≡ (w₂ ++ (m ++ w₃)) ++ (y ∷ []) = simp append_assoc in
      taken (p + length w) x r (w₄ ++ u) at d (past t p w ((x ∷ r) ++ (w₄ ++ u)) (e ∙ a)) (h ∙ l) f
      (ap (λ (s : List ℕ). is_space (byte_at (x ∷ s) (length s))) c ∙ ap is_space (last_of_lem x (w₂ ++ (m ++ w₃)) y) ∙ g)

module _ (t : List ℕ) (n : ℕ) (room : suc n ≤ deepest) (p : ℕ) (u : List ℕ) where
  array_cut : {s : List ℕ} → array (value n) s → drop p t ≡ s ++ u → Cut t (skip_of t p)
  unfolding value is_block at_rest mode_after depth_after
  array_cut (join (join {s = w} dw (join {t = w₂} bytes dw₂)) (join {s = m} dm (join {s = w₃} dw₃ (join {t = w₄} bytes dw₄)))) e =
      let f = framed t p 91 93 (Optional (value n · Many (value_separator · value n))) w w₂ m w₃ w₄ u dw dw₂ dm dw₃ dw₄ e refl (run_byte 91 refl refl refl) (run_values n 0) refl refl in
      bracket_cut t (suc n) room p 91 93 w w₂ m w₃ w₄ u (that (that (that (that (this (join (join none (join bytes dw₂)) (join dm (join dw₃ (join bytes none))))))))) refl refl e f.place f.end

  object_cut : {s : List ℕ} → object (value n) s → drop p t ≡ s ++ u → Cut t (skip_of t p)
  unfolding value is_block at_rest mode_after depth_after
  object_cut (join (join {s = w} dw (join {t = w₂} bytes dw₂)) (join {s = m} dm (join {s = w₃} dw₃ (join {t = w₄} bytes dw₄)))) e =
      let f = framed t p 123 125 (Optional (member (value n) · Many (value_separator · member (value n)))) w w₂ m w₃ w₄ u dw dw₂ dm dw₃ dw₄ e refl (run_byte 123 refl refl refl) (run_members n 0) refl refl in
      bracket_cut t (suc n) room p 123 125 w w₂ m w₃ w₄ u (that (that (that (this (join (join none (join bytes dw₂)) (join dm (join dw₃ (join bytes none)))))))) refl refl e f.place f.end

module _ (t : List ℕ) (n : ℕ) (room : n ≤ deepest) (p : ℕ) (u : List ℕ) (k : Stops u) where
  false_cut : {s : List ℕ} → value n s → false-word s → drop p t ≡ s ++ u → Cut t (skip_of t p)
  unfolding is_block is_delimiter byte_at
  false_cut d bytes e = word_cut t n room p 102 (97 ∷ 108 ∷ 115 ∷ 101 ∷ []) u d (refl, (refl, (refl, (refl, (refl, tt))))) refl refl refl e k

  null_cut : {s : List ℕ} → value n s → null_word s → drop p t ≡ s ++ u → Cut t (skip_of t p)
  unfolding is_block is_delimiter byte_at
  null_cut d bytes e = word_cut t n room p 110 (117 ∷ 108 ∷ 108 ∷ []) u d (refl, (refl, (refl, (refl, tt)))) refl refl refl e k

  true_cut : {s : List ℕ} → value n s → true-word s → drop p t ≡ s ++ u → Cut t (skip_of t p)
  unfolding is_block is_delimiter byte_at
  true_cut d bytes e = word_cut t n room p 116 (114 ∷ 117 ∷ 101 ∷ []) u d (refl, (refl, (refl, (refl, tt)))) refl refl refl e k

-- ---- any value of the grammar
value_stands : (t : List ℕ) (n : ℕ) → n ≤ deepest → (p : ℕ) (s u : List ℕ) → value n s → drop p t ≡ s ++ u → Stops u → Cut t (skip_of t p)
unfolding value
value_stands t zero h p s u (this d) e k = false_cut t 0 h p u k (this d) d e
value_stands t zero h p s u (that (this d)) e k = null_cut t 0 h p u k (that (this d)) d e
value_stands t zero h p s u (that (that (this d))) e k = true_cut t 0 h p u k (that (that (this d))) d e
value_stands t zero h p s u (that (that (that (this d)))) e k = number_cut t 0 h p u (that (that (that (this d)))) d e k
value_stands t zero h p s u (that (that (that (that d)))) e k = string_cut t 0 h p u (that (that (that (that d)))) d e
value_stands t (suc n) h p s u (this d) e k = false_cut t (suc n) h p u k (this d) d e
value_stands t (suc n) h p s u (that (this d)) e k = null_cut t (suc n) h p u k (that (this d)) d e
value_stands t (suc n) h p s u (that (that (this d))) e k = true_cut t (suc n) h p u k (that (that (this d))) d e
value_stands t (suc n) h p s u (that (that (that (this d)))) e k = object_cut t n h p u d e
value_stands t (suc n) h p s u (that (that (that (that (this d))))) e k = array_cut t n h p u d e
value_stands t (suc n) h p s u (that (that (that (that (that (this d)))))) e k = number_cut t (suc n) h p u (that (that (that (that (that (this d)))))) d e k
value_stands t (suc n) h p s u (that (that (that (that (that (that d)))))) e k = string_cut t (suc n) h p u (that (that (that (that (that (that d)))))) d e

-- ---- any value that the automaton reads
module _ (t : List ℕ) (p : ℕ) (k : Stack) (s : Scanned t p k) where
  pub value_cut : Cut t p
  unfolding run_at
  value_cut = go (read_is_grammar (drop p t) k p s.on) refl
    where
      at : skip_of t p ≡ p
      at = skip_none t p s.solid_at (drop_here t p (goes_on t p val k refl s.on))

      go : {l : List ℕ} → Left deepest val k l → drop p t ≡ l → Cut t p
      go (join {s = w} b (join {s = v} {t = u} d a)) e =
          subst (λ (q : ℕ). Cut t q) (sym (skip_over t p (v ++ u) b e) ∙ at)
          (value_stands t (deepest - length k) (omega arith) (p + length w) v u d (past t p w (v ++ u) e) (after_stops a))

  pub value_whole : verdict (part t p (end_of t p - p)) ≡ Ok tt
  value_whole = value_cut.whole

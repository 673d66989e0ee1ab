-- Bytes that stand at a place of a text, and white space. Assumes nothing.
use mathlib.Core.Path.{◌≡◌, refl, sym, ap, ◌∙◌}
use mathlib.Core.Bool.{false, true}
use mathlib.Core.List.{List, [], ◌∷◌, ◌++◌, append_assoc}
use Prim.Native.Nat.{ℕ, ◌+◌}
use native.Mathlib.Omega.{arith}
use lib.ListN.{length, drop}
use lib.Seq.{drop-drop, drop_at}
use Rattle.json_scan.specs.Json.{is_space}
use Rattle.view.specs.Values.{count, skip_of}
use Rattle.view.specs.Ends.{is_token, is_delimiter}
use Rattle.grammar.specs.Grammar.{Byte, bytes, ◌·◌, join, this, that, none, more, ws}

module _ (t : List ℕ) (p : ℕ) where
  -- what stands behind s
  pub past : (s u : List ℕ) → drop p t ≡ s ++ u → drop (p + length s) t ≡ u
  past s u e = sym (drop-drop (length s) p t) ∙ ap (drop (length s)) e ∙ drop_at s u (length s) refl

  -- the first of two
  pub front : (a b u : List ℕ) → drop p t ≡ (a ++ b) ++ u → drop p t ≡ a ++ (b ++ u)
  front a b u e = e ∙ append_assoc a b u

  -- the second
  pub back : (a b u : List ℕ) → drop p t ≡ (a ++ b) ++ u → drop (p + length a) t ≡ b ++ u
  back a b u e = past a (b ++ u) (front a b u e)

-- ---- white space
space_counts : {w : List ℕ} → ws w → (u : List ℕ) → count is_space (w ++ u) ≡ length w + count is_space u
unfolding count
space_counts none u = omega arith
space_counts (more (this bytes) w) u = let r = space_counts w u in omega arith
space_counts (more (that (this bytes)) w) u = let r = space_counts w u in omega arith
space_counts (more (that (that (this bytes))) w) u = let r = space_counts w u in omega arith
space_counts (more (that (that (that bytes))) w) u = let r = space_counts w u in omega arith

module _ (t : List ℕ) (p : ℕ) where
  -- white space is skipped
  pub skip_over : {w : List ℕ} (u : List ℕ) → ws w → drop p t ≡ w ++ u → skip_of t p ≡ skip_of t (p + length w)
  unfolding skip_of
  skip_over {w} u d e =
      let a : count is_space (drop p t) ≡ length w + count is_space u = ap (count is_space) e ∙ space_counts d u in
      let b : count is_space (drop (p + length w) t) ≡ count is_space u = ap (count is_space) (past t p w u e) in
      omega arith

  -- and nothing else
  pub skip_none : {b : ℕ} {u : List ℕ} → is_space b ≡ false → drop p t ≡ b ∷ u → skip_of t p ≡ p
  unfolding skip_of count
  skip_none {b} {u} n e = let a : count is_space (drop p t) ≡ 0 = ap (count is_space) e ∙ (rw n) in omega arith

-- ---- what follows a word or a number
abbrev pub Stops : List ℕ → Type 0
Stops u = count is_token u ≡ 0

-- a separator or a closing bracket, with white space
pub stops_at : (c : ℕ) → is_delimiter c ≡ true → {a : List ℕ} → (ws · Byte c · ws) a → (u : List ℕ) → Stops (a ++ u)
unfolding count is_delimiter
stops_at c h (join none (join bytes w)) u = rw h
stops_at c h (join (more (this bytes) w) r) u = refl
stops_at c h (join (more (that (this bytes)) w) r) u = refl
stops_at c h (join (more (that (that (this bytes))) w) r) u = refl
stops_at c h (join (more (that (that (that bytes))) w) r) u = refl

-- white space at the end of the text
pub stops_space : {a : List ℕ} → ws a → Stops (a ++ [])
unfolding count is_delimiter
stops_space none = refl
stops_space (more (this bytes) r) = refl
stops_space (more (that (this bytes)) r) = refl
stops_space (more (that (that (this bytes))) r) = refl
stops_space (more (that (that (that bytes))) r) = refl

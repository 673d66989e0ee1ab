-- Strings and brackets: where they end, and where what they hold begins. Assumes nothing.
use mathlib.Core.Path.{◌≡◌, refl, sym, ap, ◌∙◌}
use mathlib.Core.Bool.{true, false}
use mathlib.Core.List.{List, [], ◌∷◌, ◌++◌, append_assoc}
use Prim.Native.Nat.{ℕ, ◌+◌}
use native.Mathlib.Omega.{arith}
use lib.ListN.{length, drop, length-append}
use Rattle.json_scan.specs.Json.{is_space}
use Rattle.ground.specs.Bytes.{byte_at}
use Rattle.view.specs.Values.{skip_of}
use Rattle.view.specs.Ends.{to_rest, mode_after, depth_after, at_rest, closing_of, is_block, end_of}
use Rattle.viewed.proofs.Values.{byte_here}
use Rattle.grammar.specs.Grammar.{bytes, Byte, join, ws, string}
use Rattle.tree.proofs.Standing.{past, back, skip_over, skip_none}
use Rattle.tree.proofs.Rests.{Runs, run_join, run_ws, run_opened}

-- the byte that closes what is open
closes : (m d b : ℕ) (u : List ℕ) → at_rest (mode_after m b) (depth_after m b d) ≡ true → to_rest m d (b ∷ u) ≡ 1
unfolding to_rest
closes m d b u h = rw h

module _ (t : List ℕ) (p : ℕ) where
  -- an end by the bytes until rest
  block_end_lem : (b n : ℕ) (r : List ℕ) → is_block b ≡ true → drop p t ≡ b ∷ r → to_rest 0 0 (b ∷ r) ≡ n → end_of t p ≡ p + n
  unfolding end_of closing_of
  block_end_lem b n r k e h = let a : to_rest 0 0 (drop p t) ≡ n = ap (to_rest 0 0) e ∙ h in rw (byte_here t p b r e, k, a)

  -- a string ends behind its closing quote
  pub string_end : {s : List ℕ} → string s → (u : List ℕ) → drop p t ≡ s ++ u → end_of t p ≡ p + length s
  unfolding is_block at_rest mode_after depth_after
  string_end (join {t = r} bytes (join {s = c} d bytes)) u e =
      let a : to_rest 0 0 ((34 ∷ c) ++ (34 ∷ u)) ≡ length (34 ∷ c) + to_rest 1 0 (34 ∷ u) = (run_opened 0).ran (34 ∷ c) (join bytes d) (34 ∷ u) in
      let f : to_rest 1 0 (34 ∷ u) ≡ 1 = closes 1 0 34 u refl in
      let l : length (c ++ (34 ∷ [])) ≡ length c + 1 = length-append c (34 ∷ []) in
      let g : (c ++ (34 ∷ [])) ++ u ≡ c ++ (34 ∷ u) = append_assoc c (34 ∷ []) u in
      block_end_lem 34 (length (34 ∷ (c ++ (34 ∷ [])))) ((c ++ (34 ∷ [])) ++ u) refl e (ap (λ (y : List ℕ). to_rest 0 0 (34 ∷ y)) g ∙ a ∙ (omega arith))

-- ---- the bytes s stand at p: white space, the bracket x at `at`, white space; m; then z with the closing bracket before `to`; and behind all u
pub record Framed (t : List ℕ) (p x : ℕ) (s begun m z u : List ℕ) (at to : ℕ) : Type 0 where
  pub place : skip_of t p ≡ at
  pub end : end_of t at ≡ to
  pub opens : byte_at t at ≡ x
  pub inside : skip_of t (at + 1) ≡ skip_of t (p + length begun)
  pub holds : drop (p + length begun) t ≡ m ++ (z ++ u)
  pub behind : skip_of t (end_of t at) ≡ skip_of t (p + length s)

-- ---- brackets x and y, with white space around them, and between them the bytes of a rule
module _ (t : List ℕ) (p x y : ℕ) (P : List ℕ → Type 0) where
  module _ (w w₂ m w₃ w₄ u : List ℕ) where
    -- all that the rule takes
    abbrev all : List ℕ
    all = (w ++ ((x ∷ []) ++ w₂)) ++ (m ++ (w₃ ++ ((y ∷ []) ++ w₄)))

    grouped : all ++ u ≡ w ++ (x ∷ ((w₂ ++ (m ++ w₃)) ++ (y ∷ (w₄ ++ u))))
    grouped = simp append_assoc

    long : length all ≡ length w + (2 + length (w₂ ++ (m ++ w₃))) + length w₄
    long = simp length-append (omega arith)

    module _ (dw : ws w) (dw₂ : ws w₂) (dm : P m) (dw₃ : ws w₃) (dw₄ : ws w₄) (e : drop p t ≡ all ++ u) where
      -- the opening bracket's place, and what stands there
      abbrev at : ℕ
      at = p + length w

      stands : drop at t ≡ x ∷ ((w₂ ++ (m ++ w₃)) ++ (y ∷ (w₄ ++ u)))
      stands = past t p w (x ∷ ((w₂ ++ (m ++ w₃)) ++ (y ∷ (w₄ ++ u)))) (e ∙ grouped)

      opens : byte_at t at ≡ x
      opens = byte_here t at x ((w₂ ++ (m ++ w₃)) ++ (y ∷ (w₄ ++ u))) stands

      begins : is_space x ≡ false → skip_of t p ≡ at
      begins n = skip_over t p (x ∷ ((w₂ ++ (m ++ w₃)) ++ (y ∷ (w₄ ++ u)))) dw (e ∙ grouped) ∙ skip_none t at n stands

      -- past the white space behind it
      inside : skip_of t (at + 1) ≡ skip_of t (p + length (w ++ ((x ∷ []) ++ w₂)))
      inside =
          let f : drop (at + 1) t ≡ (w₂ ++ (m ++ w₃)) ++ (y ∷ (w₄ ++ u)) = past t at (x ∷ []) ((w₂ ++ (m ++ w₃)) ++ (y ∷ (w₄ ++ u))) stands in
          let l : length (w ++ ((x ∷ []) ++ w₂)) ≡ length w + (1 + length w₂) = simp length-append (omega arith) in
          let g : at + 1 + length w₂ ≡ p + length (w ++ ((x ∷ []) ++ w₂)) = omega arith in
          skip_over t (at + 1) ((m ++ w₃) ++ (y ∷ (w₄ ++ u))) dw₂ (f ∙ append_assoc w₂ (m ++ w₃) (y ∷ (w₄ ++ u))) ∙ ap (skip_of t) g

      -- what stands between the brackets
      holds : drop (p + length (w ++ ((x ∷ []) ++ w₂))) t ≡ m ++ ((w₃ ++ ((y ∷ []) ++ w₄)) ++ u)
      holds = back t p (w ++ ((x ∷ []) ++ w₂)) (m ++ (w₃ ++ ((y ∷ []) ++ w₄))) u e ∙ append_assoc m (w₃ ++ ((y ∷ []) ++ w₄)) u

      -- and the end
      module _ (k : is_block x ≡ true) (up : Runs (Byte x) 0 0 0 1) (on : Runs P 0 1 0 1) (down : at_rest (mode_after 0 y) (depth_after 0 y 1) ≡ true) where
        rests : to_rest 0 0 (x ∷ ((w₂ ++ (m ++ w₃)) ++ (y ∷ (w₄ ++ u)))) ≡ 2 + length (w₂ ++ (m ++ w₃))
        rests =
            let a : to_rest 0 0 (x ∷ ((w₂ ++ (m ++ w₃)) ++ (y ∷ (w₄ ++ u)))) ≡ 1 + to_rest 0 1 ((w₂ ++ (m ++ w₃)) ++ (y ∷ (w₄ ++ u))) = up.ran (x ∷ []) bytes ((w₂ ++ (m ++ w₃)) ++ (y ∷ (w₄ ++ u))) in
            let b : to_rest 0 1 ((w₂ ++ (m ++ w₃)) ++ (y ∷ (w₄ ++ u))) ≡ length (w₂ ++ (m ++ w₃)) + to_rest 0 1 (y ∷ (w₄ ++ u)) =
            (run_join (run_ws 0) (run_join on (run_ws 0))).ran (w₂ ++ (m ++ w₃)) (join dw₂ (join dm dw₃)) (y ∷ (w₄ ++ u)) in
            let c : to_rest 0 1 (y ∷ (w₄ ++ u)) ≡ 1 = closes 0 1 y (w₄ ++ u) down in
            omega arith

        ends : end_of t at ≡ at + (2 + length (w₂ ++ (m ++ w₃)))
        ends = block_end_lem t at x (2 + length (w₂ ++ (m ++ w₃))) ((w₂ ++ (m ++ w₃)) ++ (y ∷ (w₄ ++ u))) k stands rests

        last : at + (2 + length (w₂ ++ (m ++ w₃))) ≡ p + length (w ++ ((x ∷ []) ++ w₂)) + length m + length w₃ + 1
        last = simp length-append (omega arith)

        behind : skip_of t (end_of t at) ≡ skip_of t (p + length all)
        behind =
            let f : x ∷ ((w₂ ++ (m ++ w₃)) ++ (y ∷ (w₄ ++ u))) ≡ (x ∷ ((w₂ ++ (m ++ w₃)) ++ (y ∷ []))) ++ (w₄ ++ u) = sym (ap (λ (z : List ℕ). x ∷ z) (append_assoc (w₂ ++ (m ++ w₃)) (y ∷ []) (w₄ ++ u))) in
            let l : length ((w₂ ++ (m ++ w₃)) ++ (y ∷ [])) ≡ length (w₂ ++ (m ++ w₃)) + 1 = length-append (w₂ ++ (m ++ w₃)) (y ∷ []) in
            let g : at + length (x ∷ ((w₂ ++ (m ++ w₃)) ++ (y ∷ []))) ≡ at + (2 + length (w₂ ++ (m ++ w₃))) = omega arith in
            let h : drop (at + (2 + length (w₂ ++ (m ++ w₃)))) t ≡ w₄ ++ u = ap (λ (z : ℕ). drop z t) (sym g) ∙ past t at (x ∷ ((w₂ ++ (m ++ w₃)) ++ (y ∷ []))) (w₄ ++ u) (stands ∙ f) in
            let q : at + (2 + length (w₂ ++ (m ++ w₃))) + length w₄ ≡ p + length all = let z = long in omega arith in
            ap (skip_of t) ends ∙ skip_over t (at + (2 + length (w₂ ++ (m ++ w₃)))) u dw₄ h ∙ ap (skip_of t) q

        pub framed : is_space x ≡ false → Framed t p x all (w ++ ((x ∷ []) ++ w₂)) m (w₃ ++ ((y ∷ []) ++ w₄)) u at (p + length (w ++ ((x ∷ []) ++ w₂)) + length m + length w₃ + 1)
        framed n = record { place = begins n; end = ends ∙ last; opens = opens; inside = inside; holds = holds; behind = behind }

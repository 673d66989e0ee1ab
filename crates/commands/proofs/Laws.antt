-- Laws of the commands: one for each count of words.
-- Assumes nothing.
use mathlib.Core.Path.{◌≡◌, refl, sym, ◌∙◌}
use mathlib.Core.List.{List, [], ◌∷◌}
use Prim.Native.Nat.{ℕ, ◌<◌}
use native.Mathlib.Omega.{arith}
use lib.Dec.{eqb}
use lib.ListN.{length, get_or}
use Rattle.std.proofs.lemmas.List.Splits.{length-slice_split}
use Rattle.script.specs.Words.{words_of, word_at}
use Rattle.script.specs.Numbers.{number_of}
use Rattle.std.specs.Prelude.{Option}
use Rattle.commands.specs.Commands.{of_none, of_one, of_two, of_three, of_words}

pub some_words : (line : List ℕ) → 0 < length (words_of line)
unfolding words_of
some_words line = omega (arith, length-slice_split (λ b. eqb b 32) line)

one : (ws : List (List ℕ)) (bytes : Option ℕ) → length ws ≡ 1 → of_none (get_or ws 0 []) ≡ of_words ws bytes
one [] bytes e = absurd (omega arith)
one (v ∷ []) bytes e = refl
one (v ∷ a ∷ ws) bytes e = absurd (omega arith)

two : (ws : List (List ℕ)) (bytes : Option ℕ) → length ws ≡ 2 → of_one (get_or ws 0 []) (number_of (get_or ws 1 [])) bytes ≡ of_words ws bytes
two [] bytes e = absurd (omega arith)
two (v ∷ []) bytes e = absurd (omega arith)
two (v ∷ a ∷ []) bytes e = refl
two (v ∷ a ∷ b ∷ ws) bytes e = absurd (omega arith)

three : (ws : List (List ℕ)) (bytes : Option ℕ) → length ws ≡ 3
    → of_two (get_or ws 0 []) (number_of (get_or ws 1 [])) (number_of (get_or ws 2 [])) bytes ≡ of_words ws bytes
three [] bytes e = absurd (omega arith)
three (v ∷ []) bytes e = absurd (omega arith)
three (v ∷ a ∷ []) bytes e = absurd (omega arith)
three (v ∷ a ∷ b ∷ []) bytes e = refl
three (v ∷ a ∷ b ∷ c ∷ ws) bytes e = absurd (omega arith)

four : (ws : List (List ℕ)) (bytes : Option ℕ) → length ws ≡ 4
    → of_three (get_or ws 0 []) (number_of (get_or ws 1 [])) (number_of (get_or ws 2 [])) (number_of (get_or ws 3 [])) ≡ of_words ws bytes
four [] bytes e = absurd (omega arith)
four (v ∷ []) bytes e = absurd (omega arith)
four (v ∷ a ∷ []) bytes e = absurd (omega arith)
four (v ∷ a ∷ b ∷ []) bytes e = absurd (omega arith)
four (v ∷ a ∷ b ∷ c ∷ []) bytes e = refl
four (v ∷ a ∷ b ∷ c ∷ d ∷ ws) bytes e = absurd (omega arith)

-- the same, as the code has the words: n of them, the first, and the numbers of the others
module _ (line : List ℕ) (bytes : Option ℕ) (n : ℕ) (count : n ≡ length (words_of line)) where
  pub words_one : (v : List ℕ) → v ≡ word_at line 0 → n ≡ 1 → of_none v ≡ of_words (words_of line) bytes
  unfolding word_at
  words_one v e h = rw e (one (words_of line) bytes (sym count ∙ h))

  module _ (v : List ℕ) (ev : v ≡ word_at line 0) (x : Option ℕ) (w : List ℕ) (ew : w ≡ word_at line 1) (ex : x ≡ number_of w) where
    pub words_two : n ≡ 2 → of_one v x bytes ≡ of_words (words_of line) bytes
    unfolding word_at
    words_two h = rw (ex, ew, ev) (two (words_of line) bytes (sym count ∙ h))

    module _ (x₂ : Option ℕ) (w₂ : List ℕ) (ew₂ : w₂ ≡ word_at line 2) (ex₂ : x₂ ≡ number_of w₂) where
      pub words_three : n ≡ 3 → of_two v x x₂ bytes ≡ of_words (words_of line) bytes
      unfolding word_at
      words_three h = rw (ex, ew, ev, ex₂, ew₂) (three (words_of line) bytes (sym count ∙ h))

      pub words_four : (x₃ : Option ℕ) (w₃ : List ℕ) → w₃ ≡ word_at line 3 → x₃ ≡ number_of w₃ → n ≡ 4 → of_three v x x₂ x₃ ≡ of_words (words_of line) bytes
      unfolding word_at
      words_four x₃ w₃ ew₃ ex₃ h = rw (ex, ew, ev, ex₂, ew₂, ex₃, ew₃) (four (words_of line) bytes (sym count ∙ h))

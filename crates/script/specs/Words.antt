-- The words of a line, which one space separates: an empty line is one empty word.
-- Assumes nothing.
use Rattle.std.specs.Prelude.{ℕ, List, [], ◌==◌, get_or}
use Rattle.std.specs.List.{slice_split}

unfoldable pub words_of : List ℕ → List (List ℕ)
words_of line = slice_split (λ b. b == 32) line

-- word n of a line, counted from 0; empty where there is none
unfoldable pub word_at : List ℕ → ℕ → List ℕ
word_at line n = get_or (words_of line) n []

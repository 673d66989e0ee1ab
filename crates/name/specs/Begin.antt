-- What a string that keeps a rule can begin with. A rule is a test of strings: `is_simple`, `is_name`, `is_namespace`.
-- Assumes nothing: these are definitions.
use Rattle.std.specs.Prelude.{ℕ, ◌≡◌, Bool, true, List, ◌++◌}
use Rattle.ground.specs.Ascii.{ascii}

-- some string that keeps the rule begins with s
pub record Begins (keeps : List ℕ → Bool) (s : List ℕ) : Type 0 where
  pub rest : List ℕ
  pub whole : keeps (s ++ rest) ≡ true

-- the same as a test. Whatever string that keeps the rule begins with s, one letter behind s is such a string too (`letter_follows`)
unfoldable pub can_begin : (List ℕ → Bool) → List ℕ → Bool
can_begin keeps s = keeps (s ++ ascii "a")

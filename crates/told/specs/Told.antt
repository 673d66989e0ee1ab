-- What the refusal of a text tells of it: its number is one of a text's own, and a 7 tells which string breaks its rule, and where.
-- Assumes nothing.
use Rattle.std.specs.Prelude.{ℕ, ◌≡◌, Bool, false, ◌&&◌, ◌||◌, List, eqb, ltb}
use Rattle.ground.specs.Bytes.{byte_at}
use Rattle.name.specs.Name.{is_simple, is_name, is_namespace}
use Rattle.view.specs.Strings.{string_at}
use Rattle.breach.specs.Breach.{BreaksAt}

-- the numbers that documents 01 and 02 have for what a text says by itself: 1 to 19, 27, 28 and 48
abbrev pub is_own : ℕ → Bool
is_own n = (ltb 0 n && ltb n 20) || eqb n 27 || eqb n 28 || eqb n 48

-- the rules: of fields, their aliases and symbols; of definitions, their aliases and references; of namespaces
pub data Rule : Type 0 where
  simple name namespace : Rule

abbrev pub keeps_of : Rule → List ℕ → Bool
keeps_of simple = is_simple
keeps_of name = is_name
keeps_of namespace = is_namespace

-- a string of the text, its opening quote at `quote`, does not keep the rule, and p is where it breaks it
pub record Told (t : List ℕ) (p : ℕ) : Type 0 where
  pub rule : Rule
  pub quote : ℕ
  pub opens : byte_at t quote ≡ 34
  pub fails : keeps_of rule (string_at t quote) ≡ false
  pub breaks : BreaksAt (keeps_of rule) t quote p

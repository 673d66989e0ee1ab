-- The marked examples of document 01, each a question and its answer: one list; the claim over it is in proofs/Claim.antt.
-- Assumes nothing.
use Rattle.std.specs.Prelude.{cond, ◌&&◌, List, [], ◌∷◌, map, length, ℕ}
use Prim.Native.String.{String}
use Rattle.answer.specs.declared.refusal.Refusal.{Refusal}
use Rattle.answer.specs.Numbers.{number_of}
use Rattle.name.specs.Name.{full_name, is_name, is_namespace}
use Rattle.json_scan.specs.Json.{text}
use Rattle.row.specs.Rows.{Row, texts}
use Rattle.row.specs.Sets.{flat}
use Rattle.set.specs.Lists.{Result, becomes, next, put_in, refuses}
use Rattle.canonical.specs.Canonical.{canonical_of}
use Rattle.rabin.specs.Rabin.{bits_of, entry_of, rabin_of, signed_of}
use Rattle.ground.specs.Ascii.{ascii}
use Rattle.row.specs.declared.kind.Kind.{Kind}
use Rattle.row.specs.declared.kind.Kind.TheVariants.{Null, Int, Reference, Union, Record, Field}

-- what is asked: an entry of the Rabin table; the fingerprint of some bytes; the full name, in a namespace, of a name as it is written; the rows and the
-- canonical text of a declaration; the set that
-- texts make, put one by one at the end of the empty set; two questions, on either side of a rule's edge
pub data Question : Type 0 where
  entry : ℕ → Question
  fingerprint : List ℕ → Question
  called : String → String → Question
  listing : String → Question
  putting : List String → Question
  edge : Question → Question → Question

-- a row's kind, depth and string
pub record Line : Type 0 where
  pub kind : Kind
  pub depth : ℕ
  pub text : List ℕ

-- what is answered: a signed number by its 64 bits, as 01 writes them in hexadecimal; a full name; that there is none (7); rows, how many they are, their
-- string bytes and the canonical text; the counts of a set; a refusal's number, place and position; two answers
pub data Answer : Type 0 where
  bits : ℕ → Answer
  full : List ℕ → Answer
  none : Answer
  lines : List Line → ℕ → ℕ → List ℕ → Answer
  counts : ℕ → ℕ → ℕ → Answer
  refused : ℕ → ℕ → ℕ → Answer
  sides : Answer → Answer → Answer

-- ---- the answer that the definitions give

abbrev pub line : Kind → ℕ → List ℕ → Line
line kind depth text = record { kind = kind; depth = depth; text = text }

abbrev pub refused_by : Refusal → Answer
refused_by r = refused (number_of r.why) r.place r.at

abbrev pub put_each : List (List Row) → List String → Result
put_each ds [] = becomes ds
put_each ds (t ∷ ts) = next (put_in ds (length ds) (ascii t)) (λ longer. put_each longer ts)

abbrev pub counts_of : Result → Answer
counts_of (becomes ds) = counts (length ds) (length (flat ds)) (length (texts (flat ds)))
counts_of (refuses r) = refused_by r

abbrev pub lines_of : Result → Answer
lines_of (becomes ds) =
    lines (map (λ (r : Row). line r.kind r.depth r.text) (flat ds)) (length (flat ds)) (length (texts (flat ds))) (canonical_of (flat ds))
lines_of (refuses r) = refused_by r

abbrev pub answer_to : Question → Answer
answer_to (entry i) = bits (bits_of (signed_of (entry_of i)))
answer_to (fingerprint bs) = bits (bits_of (rabin_of bs))
answer_to (called namespace written) =
    cond (is_namespace (ascii namespace) && is_name (ascii written)) (full (full_name (ascii namespace) (ascii written))) none
answer_to (listing text) = lines_of (put_each [] (text ∷ []))
answer_to (putting texts) = counts_of (put_each [] texts)
answer_to (edge a b) = sides (answer_to a) (answer_to b)

-- ---- the twelve

abbrev pub Mark : Type 0
Mark = Question × Answer

abbrev pub given_listing : String
given_listing =
    "{\"type\":\"record\",\"name\":\"R\",\"namespace\":\"a\",\"fields\":[{\"name\":\"x\",\"type\":\"int\"},{\"name\":\"next\",\"type\":[\"null\",\"R\"]}]}"

abbrev pub its_text : String
its_text = "{\"name\":\"a.R\",\"type\":\"record\",\"fields\":[{\"name\":\"x\",\"type\":\"int\"},{\"name\":\"next\",\"type\":[\"null\",\"a.R\"]}]}"

abbrev pub its_lines : List Line
its_lines =
    line Record 0 (ascii "a.R")
    ∷ line Field 1 (ascii "x")
    ∷ line Int 2 []
    ∷ line Field 1 (ascii "next")
    ∷ line Union 2 []
    ∷ line Null 3 []
    ∷ line Reference 3 (ascii "a.R")
    ∷ []

-- rule 11: a field's alias may be an earlier field's name; a field's name may not be an earlier field's alias
abbrev pub alias_taken : String
alias_taken = "{\"type\":\"record\",\"name\":\"R\",\"fields\":[{\"name\":\"x\",\"type\":\"int\"},{\"name\":\"y\",\"aliases\":[\"x\"],\"type\":\"int\"}]}"

abbrev pub name_taken : String
name_taken = "{\"type\":\"record\",\"name\":\"R\",\"fields\":[{\"name\":\"x\",\"aliases\":[\"y\"],\"type\":\"int\"},{\"name\":\"y\",\"type\":\"int\"}]}"

-- rule 25: a definition may have the name of an earlier one's alias; not that of an earlier one
abbrev pub first : String
first = "{\"type\":\"fixed\",\"name\":\"A\",\"aliases\":[\"B\"],\"size\":1}"

abbrev pub as_its_alias : String
as_its_alias = "{\"type\":\"fixed\",\"name\":\"B\",\"size\":1}"

abbrev pub as_itself : String
as_itself = "{\"type\":\"fixed\",\"name\":\"A\",\"size\":1}"

unfoldable pub marks : List Mark
marks =
    (entry 0, bits 0)
    ∷ (entry 128, bits 0xc15d213aa4d7a795)
    ∷ (fingerprint [], bits 0xc15d213aa4d7a795)
    ∷ (fingerprint (0x95 ∷ []), bits 0x00c15d213aa4d7a7)
    ∷ (fingerprint (0x15 ∷ []), bits 0xc19c7c1b9e737032)
    ∷ (listing given_listing, lines its_lines 7 11 (ascii its_text))
    ∷ (called "n" ".a", full (ascii "a"))
    ∷ (called "n" "a.", none)
    ∷ (called "n" "", none)
    ∷ (called "" "a", full (ascii "a"))
    ∷ (edge (putting (alias_taken ∷ [])) (putting (name_taken ∷ [])), sides (counts 1 6 4) (refused 11 0 88))
    ∷ (edge (putting (first ∷ as_its_alias ∷ [])) (putting (first ∷ as_itself ∷ [])), sides (counts 2 3 3) (refused 25 1 23))
    ∷ []

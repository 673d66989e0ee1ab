-- The commands of a script, by the words of a line.
-- Assumes nothing.
use Rattle.std.specs.Prelude.{ℕ, ◌-◌, ◌*◌, ◌/◌, Bool, cond, List, [], ◌∷◌, ltb, length, take, Option, Some, None}
use Rattle.ground.specs.Ascii.{ascii}
use Rattle.ground.specs.Bytes.{same}
use Rattle.json_scan.specs.Json.{longest}
use Rattle.script.specs.Words.{words_of, word_at}
use Rattle.script.specs.Numbers.{number_of}
use Rattle.script.specs.Hex.{unhexed}
use Rattle.commands.specs.declared.command.Call.{Call}
use Rattle.commands.specs.declared.command.Call.TheVariants.{Open, Put, Name, Canonical, Fingerprint, Rows, Scan, Digest}
use Rattle.commands.specs.declared.command.Command.{Command}
use Rattle.commands.specs.declared.command.Command.TheVariants.{Lend, Fill, Poke, Ask}

unfoldable pub of_none : List ℕ → Option Command
of_none verb = cond (same verb (ascii "open")) (Some (Ask Open)) (cond (same verb (ascii "digest")) (Some (Ask Digest)) None)

-- a byte in decimal
unfoldable pub fill_by : ℕ → Option Command
fill_by n = cond (ltb 255 n) None (Some (Fill n))

unfoldable pub of_number : List ℕ → ℕ → Option Command
of_number verb n =
    cond (same verb (ascii "memory")) (Some (Lend n))
    (cond (same verb (ascii "fill")) (fill_by n)
    (cond (same verb (ascii "fingerprint")) (Some (Ask (Fingerprint n)))
    (cond (same verb (ascii "rows")) (Some (Ask (Rows n))) None)))

abbrev pub by_number : List ℕ → Option ℕ → Option Command
by_number verb (Some n) = of_number verb n
by_number verb None = None

abbrev pub scan_by : Option ℕ → Option Command
scan_by (Some n) = Some (Ask (Scan n))
scan_by None = None

unfoldable pub of_one : List ℕ → Option ℕ → Option ℕ → Option Command
of_one verb number bytes = cond (same verb (ascii "scan")) (scan_by bytes) (by_number verb number)

abbrev pub name_of : Option ℕ → Option ℕ → Option Command
name_of None row = None
name_of (Some place) None = None
name_of (Some place) (Some row) = Some (Ask (Name place row))

unfoldable pub of_bytes_at : List ℕ → ℕ → ℕ → Option Command
of_bytes_at verb at n = cond (same verb (ascii "poke")) (Some (Poke at n)) (cond (same verb (ascii "put")) (Some (Ask (Put at n))) None)

abbrev pub by_bytes_at : List ℕ → Option ℕ → Option ℕ → Option Command
by_bytes_at verb None bytes = None
by_bytes_at verb (Some at) None = None
by_bytes_at verb (Some at) (Some n) = of_bytes_at verb at n

unfoldable pub of_two : List ℕ → Option ℕ → Option ℕ → Option ℕ → Option Command
of_two verb first second bytes = cond (same verb (ascii "name")) (name_of first second) (by_bytes_at verb first bytes)

abbrev pub canonical_by : Option ℕ → Option ℕ → Option ℕ → Option Command
canonical_by None offset room = None
canonical_by (Some place) None room = None
canonical_by (Some place) (Some offset) None = None
canonical_by (Some place) (Some offset) (Some room) = Some (Ask (Canonical place offset room))

unfoldable pub of_three : List ℕ → Option ℕ → Option ℕ → Option ℕ → Option Command
of_three verb first second third = cond (same verb (ascii "canonical")) (canonical_by first second third) None

-- a verb with up to three words, of which the last stands for these bytes
abbrev pub of_words : List (List ℕ) → Option ℕ → Option Command
of_words [] bytes = None
of_words (verb ∷ []) bytes = of_none verb
of_words (verb ∷ a ∷ []) bytes = of_one verb (number_of a) bytes
of_words (verb ∷ a ∷ b ∷ []) bytes = of_two verb (number_of a) (number_of b) bytes
of_words (verb ∷ a ∷ b ∷ c ∷ []) bytes = of_three verb (number_of a) (number_of b) (number_of c)
of_words (verb ∷ a ∷ b ∷ c ∷ d ∷ more) bytes = None

-- the last word of a line; of one that was cut, whole pairs of it
unfoldable pub last_word : List ℕ → Bool → List ℕ
last_word line cut =
    let last = word_at line (length (words_of line) - 1) in
    cond cut (take (length last / 2 * 2) last) last

-- how long a call's text is, 0 where it has none
abbrev pub text_length : Call → ℕ
text_length Open = 0
text_length (Put place n) = n
text_length (Name place row) = 0
text_length (Canonical place offset room) = 0
text_length (Fingerprint place) = 0
text_length (Rows place) = 0
text_length (Scan n) = n
text_length Digest = 0

-- a line that was cut is a command only where its text is too long already
abbrev pub of_cut : Option Command → Option Command
of_cut None = None
of_cut (Some (Lend n)) = None
of_cut (Some (Fill byte)) = None
of_cut (Some (Poke at n)) = None
of_cut (Some (Ask call)) = cond (ltb longest (text_length call)) (Some (Ask call)) None

unfoldable pub command_of : List ℕ → Bool → Option Command
command_of line cut =
    let command = of_words (words_of line) (unhexed (last_word line cut)) in
    cond cut (of_cut command) command

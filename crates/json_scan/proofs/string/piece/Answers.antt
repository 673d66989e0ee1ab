-- `json_scan::piece` meets its contract. Assumes nothing.
use Rattle.json_scan.specs.Json.{str, plain}
use Rattle.json_scan.proofs.Readers.{reads_is}
use Rattle.json_scan.proofs.Strings.{control, escaped, ascii, wider}
use Rattle.json_scan.proofs.string.piece.Goals as goal

pub returns-then-b-lt32 : goal.returns-then-b-lt32
returns-then-b-lt32 c = λ w. reads_is c.args.text.now c.args.at (str w plain) (str w plain) _ _ c.bad.ensures (control c.args.text.now c.args.at c.args.b c.requires.within c.requires.first w c.requires.no_quote c.if-b-lt32.true)

pub returns-then-b-eq92 : goal.returns-then-b-eq92
returns-then-b-eq92 c = λ w. escaped c.args.text.now c.args.at c.args.b c.requires.within c.requires.first w c.requires.no_quote c.if-b-eq92.true _ (c.escape.ensures w)

pub returns-then-b-lt128 : goal.returns-then-b-lt128
returns-then-b-lt128 c = λ w. ascii c.args.text.now c.args.at c.args.b c.requires.within c.requires.first w c.requires.no_quote c.if-b-lt32.false c.if-b-eq92.false c.if-b-lt128.true

pub returns-else-b-lt128 : goal.returns-else-b-lt128
returns-else-b-lt128 c = λ w. wider c.args.text.now c.args.at c.args.b c.requires.within c.requires.first w c.requires.no_quote c.if-b-lt32.false c.if-b-eq92.false c.if-b-lt128.false _ (c.wide_char.ensures w)

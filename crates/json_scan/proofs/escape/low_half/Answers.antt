-- `json_scan::low_half` meets its contract. Assumes nothing.
use Rattle.std.proofs.lemmas.Result.{err_from_is_err_and}
use Rattle.json_scan.specs.Json.{str, plain, g5, g6, g7}
use Rattle.json_scan.proofs.Readers.{reads_is, reads_then, reads_bad}
use Rattle.json_scan.proofs.Strings.{slash, letter_u}
use Rattle.json_scan.proofs.escape.low_half.Goals as goal

pub returns : goal.returns
returns c = λ w. reads_then c.args.text.now c.args.at (str w g5) (str w g6) (str w plain) _ (reads_is c.args.text.now c.args.at (str w g5) (str w g6) _ _ c.byte.ensures (slash c.args.text.now c.args.at w)) _ c.in_ok-e.was _ (reads_then c.args.text.now c.in_ok-e.e (str w g6) (str w g7) (str w plain) _ (reads_is c.args.text.now c.in_ok-e.e (str w g6) (str w g7) _ _ c.byte-2.ensures (letter_u c.args.text.now c.in_ok-e.e w)) _ c.in_ok-g.was _ (c.low_digits.ensures w))

pub returns-in_err-g : goal.returns-in_err-g
returns-in_err-g c =
    let p = err_from_is_err_and c.from_residual-in_err-g.result c.from_residual-in_err-g.ensures.1 in
    rw (p.1, p.2) (λ w. reads_then c.args.text.now c.args.at (str w g5) (str w g6) (str w plain) _ (reads_is c.args.text.now c.args.at (str w g5) (str w g6) _ _ c.byte.ensures (slash c.args.text.now c.args.at w)) _ c.in_ok-e.was _ (reads_bad c.args.text.now c.in_ok-e.e (str w g6) (str w g7) (str w plain) _ (reads_is c.args.text.now c.in_ok-e.e (str w g6) (str w g7) _ _ c.byte-2.ensures (letter_u c.args.text.now c.in_ok-e.e w)) _ c.in_err-g.was))

pub returns-in_err-e : goal.returns-in_err-e
returns-in_err-e c =
    let p = err_from_is_err_and c.from_residual.result c.from_residual.ensures.1 in
    rw (p.1, p.2) (λ w. reads_bad c.args.text.now c.args.at (str w g5) (str w g6) (str w plain) _ (reads_is c.args.text.now c.args.at (str w g5) (str w g6) _ _ c.byte.ensures (slash c.args.text.now c.args.at w)) _ c.in_err-e.was)

-- `json_scan::some_digits` meets its contract. Assumes nothing.
use Rattle.std.proofs.lemmas.Result.{err_from_is_err_and}
use Rattle.json_scan.proofs.Numbers.{digits_on, digits_bad}
use Rattle.json_scan.proofs.number.some_digits.Goals as goal

pub returns-in_err-e : goal.returns-in_err-e
returns-in_err-e c = let p = err_from_is_err_and c.from_residual.result c.from_residual.ensures.1 in rw (p.1, p.2) (digits_bad c.args.text.now c.args.from c.within.result c.within.ensures _ c.in_err-e.was)

pub returns : goal.returns
returns c = digits_on c.args.text.now c.args.from c.within.result c.within.ensures _ c.in_ok-e.was _ c.digits.ensures

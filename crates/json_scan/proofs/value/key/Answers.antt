-- `json_scan::key` meets its contract. Assumes nothing.
use Rattle.std.proofs.lemmas.Result.{err_from_is_err_and}
use Rattle.json_scan.specs.Json.{key, colon, val, str, as_key, plain}
use Rattle.json_scan.proofs.Readers.{reads_is, reads_then, reads_bad}
use Rattle.json_scan.proofs.Keys.{after_space, key_stays, key_one}
use Rattle.json_scan.proofs.value.key.Goals as goal

pub returns : goal.returns
returns c =
    after_space c.args.text.now c.args.from c.skip-at.result c.skip-at.ensures key val key_stays _
    (reads_then c.args.text.now c.skip-at.result key (str as_key plain) val _ (reads_is c.args.text.now c.skip-at.result key (str as_key plain) _ _ c.byte.ensures (key_one c.args.text.now c.skip-at.result c.skip-at.ensures.past)) _ c.in_ok-s.was _ (reads_then c.args.text.now c.in_ok-s.s (str as_key plain) colon val _ (c.string.ensures as_key) _ c.in_ok-e.was _ c.colon.ensures))

pub returns-in_err-e : goal.returns-in_err-e
returns-in_err-e c =
    let p = err_from_is_err_and c.from_residual-in_err-e.result c.from_residual-in_err-e.ensures.1 in
    rw (p.1, p.2) (after_space c.args.text.now c.args.from c.skip-at.result c.skip-at.ensures key val key_stays _
    (reads_then c.args.text.now c.skip-at.result key (str as_key plain) val _ (reads_is c.args.text.now c.skip-at.result key (str as_key plain) _ _ c.byte.ensures (key_one c.args.text.now c.skip-at.result c.skip-at.ensures.past)) _ c.in_ok-s.was _ (reads_bad c.args.text.now c.in_ok-s.s (str as_key plain) colon val _ (c.string.ensures as_key) _ c.in_err-e.was)))

pub returns-in_err-s : goal.returns-in_err-s
returns-in_err-s c =
    let p = err_from_is_err_and c.from_residual.result c.from_residual.ensures.1 in
    rw (p.1, p.2) (after_space c.args.text.now c.args.from c.skip-at.result c.skip-at.ensures key val key_stays _
    (reads_bad c.args.text.now c.skip-at.result key (str as_key plain) val _ (reads_is c.args.text.now c.skip-at.result key (str as_key plain) _ _ c.byte.ensures (key_one c.args.text.now c.skip-at.result c.skip-at.ensures.past)) _ c.in_err-s.was))

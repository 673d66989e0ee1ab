-- `json_scan::colon` meets its contract. Assumes nothing.
use Rattle.json_scan.specs.Json.{colon, val}
use Rattle.json_scan.proofs.Readers.{reads_is}
use Rattle.json_scan.proofs.Keys.{after_space, colon_stays, colon_one}
use Rattle.json_scan.proofs.value.colon.Goals as goal

pub returns : goal.returns
returns c = after_space c.args.text.now c.args.from c.skip-at.result c.skip-at.ensures colon val colon_stays _ (reads_is c.args.text.now c.skip-at.result colon val _ _ c.byte.ensures (colon_one c.args.text.now c.skip-at.result c.skip-at.ensures.past))

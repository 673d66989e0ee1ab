-- `row::write::bytes_of` meets its contract: each byte is that of the definition.
-- Assumes nothing.
use mathlib.Core.Path.{◌∙◌}
use Rattle.ground.specs.Numbers.{low_first}
use Rattle.row.specs.Rows.{encode_front, encode_row}
use Rattle.row.proofs.NumberLaws.{low_eight}
use Rattle.row.proofs.write.bytes_of.Goals as goal

pub returns : goal.returns
unfolding encode_row encode_front low_first
returns c =
    rw (
      c.number.ensures,
      c.copy_from_slice.ensures.after ∙ c.to_le_bytes.ensures,
      c.copy_from_slice-2.ensures.after ∙ c.to_le_bytes-2.ensures,
      c.copy_from_slice-3.ensures.after ∙ c.to_le_bytes-3.ensures,
      c.copy_from_slice-4.ensures.after ∙ c.to_le_bytes-4.ensures ∙ low_eight _,
      c.copy_from_slice-5.ensures.after ∙ c.to_le_bytes-5.ensures ∙ low_eight _,
      c.copy_from_slice-6.ensures.after ∙ c.to_le_bytes-6.ensures ∙ low_eight _,
    )

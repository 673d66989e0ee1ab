-- The twelve marks: every mark's answer is the one that the definitions give.
-- Assumes nothing.
use Rattle.std.specs.Prelude.{◌≡◌, refl, map}
use Rattle.ground.specs.Bytes.{byte_at, same}
use Rattle.name.specs.Name.{every, full_name, has_dot, is_digit, is_dotted, is_empty, is_first, is_later, is_letter, is_name, is_namespace, is_one_of, is_reserved, is_simple, is_within, joined, last_of, last_part, namespace_part, onto_first, parts, reserved_words, starts_with_dot}
use Rattle.json_scan.specs.Json.{number, run, scanned, simple, text, verdict, word_of}
use Rattle.view.specs.Elements.{elements, elements_at, first_element, next_element, unroll, value_from}
use Rattle.view.specs.Ends.{at_rest, closing_of, depth_after, end_of, is_block, is_delimiter, literal_end, mode_after, to_rest}
use Rattle.view.specs.Members.{first_key, is_member, key_behind, key_from, keys_at, last_under, member, members_at, members_of, value_of}
use Rattle.view.specs.Size.{fitting, size_from, size_of}
use Rattle.view.specs.Strings.{bytes_from, is_stop, part_at, string_at, string_from}
use Rattle.view.specs.Values.{count, is_value, shape_of, skip_of}
use Rattle.row.specs.Rows.{strings_of, texts}
use Rattle.row.specs.Sets.{flat}
use Rattle.form.specs.Forms.{form_by, form_within, object_form, word_kind}
use Rattle.form.specs.Names.{alias_check, defined_at, definition_check, full_at, namespace_check, namespace_of, reference_check, simple_check}
use Rattle.form.specs.Spots.{aliases_in, all_texts, as_array, as_text, fields_in, objects_among}
use Rattle.rules.specs.Fields.{field_name_at, field_names_check, taken_by}
use Rattle.rules.specs.Unions.{before, clash, head_of, is_new, union_check}
use Rattle.schema.specs.Out.{each}
use Rattle.schema.specs.Schema.{alias_rows, declared, definition, definition_rows, field_alias_rows, field_row, field_rows, fields_rows, fixed_rows, kept_check, primitive_rows, record_rows, reference_rows, rows_of, schema_by, schema_of, union_rows, word_rows}
use Rattle.resolve.specs.Kinds.{is_definition, is_kind}
use Rattle.resolve.specs.Resolve.{defines, fault_in, fault_of, is_defined}
use Rattle.fits.specs.Types.{has_default}
use Rattle.fits.specs.Misfits.{default_fits, misfit_in}
use Rattle.set.specs.Lists.{append, append_all, put_in}
use Rattle.canonical.specs.Canonical.{canonical_of, is_written, listed, parts_of, starts_at, text_of}
use Rattle.canonical.specs.Pieces.{closing, opening}
use Rattle.rabin.specs.Rabin.{bit_step, bit_steps, byte_bits, byte_step, entry_of, rabin_from}
use Rattle.name.specs.Full.{is_short}
use Rattle.resolve.specs.Rules.{some, under}
use Rattle.marks.specs.Marks.{answer_to, Mark, marks}

-- every mark's answer is the one that the definitions give
pub marks_hold : map (λ (m : Mark). answer_to m.0) marks ≡ map (λ (m : Mark). m.1) marks
unfolding marks byte_at same every is_empty is_one_of is_within is_letter is_digit is_first is_later is_simple joined onto_first parts is_dotted starts_with_dot is_name is_namespace has_dot full_name last_of last_part namespace_part reserved_words is_reserved word_of simple number text run verdict scanned value_from first_element next_element unroll elements_at elements is_delimiter literal_end mode_after depth_after at_rest to_rest closing_of is_block end_of value_of is_member key_from first_key key_behind keys_at members_at last_under member members_of fitting size_from size_of part_at is_stop string_from bytes_from string_at count skip_of shape_of is_value strings_of texts flat word_kind object_form form_by form_within simple_check full_at reference_check alias_check namespace_of defined_at namespace_check definition_check as_text as_array all_texts aliases_in objects_among fields_in field_name_at taken_by field_names_check clash head_of before is_new union_check each reference_rows primitive_rows word_rows alias_rows definition_rows definition field_alias_rows field_row kept_check field_rows fields_rows record_rows fixed_rows union_rows schema_by schema_of rows_of declared is_kind is_definition defines is_defined fault_of fault_in has_default default_fits misfit_in append append_all put_in is_written starts_at parts_of listed text_of canonical_of opening closing bit_step bit_steps entry_of byte_bits byte_step rabin_from is_short some under
marks_hold = refl

use Rattle.std.proofs.Common.{refl}
use Rattle.dev_store.specs.LayoutLines.{lines, entry_of}
use Rattle.dev_store.specs.Layouts.{layout_of, layout_in}
use Rattle.dev_store.specs.Stand.{stand, super_found, table_in, owned}
use Rattle.dev_store.specs.Supers.{holds_geometry, copy_reads, are_good_units, units_of, units_bytes}
use Rattle.dev_store.specs.NewDevice.{made_image}
use Rattle.super_meta.specs.GeometryText.{geometry_front, geometry_back}
use Rattle.super_meta.specs.Sealed.{digest_around}
use Rattle.fb_frame.specs.Fields.{u16_at, u32_at, u64_at}
use Rattle.super_meta.specs.TableBytes.{header_front, descriptor, descriptors, flags_bytes, tables_bytes, header_core, header_back}
use Rattle.super_meta.specs.HeaderText.{flags_at, header_at, are_described, header_holds, tables_hold}
use Rattle.super_meta.specs.Entries.{rows, name_in, is_name_field, partition_of, extent_of, group_of, device_of, partition_bytes, extent_bytes, group_bytes, device_bytes}
use Rattle.super_meta.specs.Contents.{are_named_apart, are_indexed, are_laid, are_known}
use Rattle.super_meta.specs.TableText.{content_in, names_hold, sources_hold, kinds_hold}
use Rattle.dev_store.specs.States.{record_head, record_block, state_at, is_state, is_record, record_of}
use Rattle.dev_store.specs.Runs.{runs_of, table_for}
use Rattle.fb_frame.specs.Bytes.{zeros}
use Rattle.sha2.specs.Sha256.{sha256, first_words, schedule, rounds, compress, hash_after, digest_bytes}
use Rattle.dev_store.specs.Rows.{LayoutRows, RefusedRows, StateRows, RunRows, StandRows, UnitRows}
use Rattle.dev_store.proofs.rows.Goals as goal

layout_rows : LayoutRows
unfolding layout_of lines entry_of
layout_rows = record { plain_size = refl; falcon_size = refl; falcon_super_place = refl; falcon_first = refl; falcon_units = refl; large_units = refl }

refused_rows : RefusedRows
unfolding layout_of lines entry_of
refused_rows = record { twice = refl; super_name = refl; first_again = refl; reserved = refl; leading_zero = refl; odd_size = refl; huge = refl; no_room = refl; small_super = refl; empty = refl; no_feed = refl; last_feed = refl; missing = refl; lacking = refl; too_long = refl }

state_rows : StateRows
unfolding record_head record_block state_at is_state is_record record_of zeros sha256 first_words schedule rounds compress hash_after digest_bytes
state_rows = record { head = refl; digest = refl; again = refl; older = refl; not_older = refl; newer = refl }

run_rows : RunRows
unfolding runs_of
run_rows = record { ascending = refl; one = refl; two = refl }

stand_rows : StandRows
unfolding layout_of layout_in lines entry_of record_head record_block state_at is_state is_record record_of zeros sha256 first_words schedule rounds compress hash_after digest_bytes stand super_found table_in holds_geometry copy_reads are_good_units units_of units_bytes made_image geometry_front geometry_back digest_around u16_at u32_at u64_at header_front descriptor descriptors flags_bytes tables_bytes header_core header_back flags_at header_at are_described header_holds tables_hold rows name_in is_name_field partition_of extent_of group_of device_of partition_bytes extent_bytes group_bytes device_bytes are_named_apart are_indexed are_laid are_known content_in names_hold sources_hold kinds_hold
stand_rows = record { plain = refl; plain_long = refl; small = refl; short = refl; no_text = refl; behind_text = refl; longer = refl; first_state = refl; both_states = refl; geometry = refl; geometries = refl; table = refl; tables = refl }

unit_rows : UnitRows
unfolding layout_of layout_in lines entry_of record_head record_block state_at is_state is_record record_of zeros sha256 first_words schedule rounds compress hash_after digest_bytes stand super_found table_in holds_geometry copy_reads are_good_units units_of units_bytes made_image geometry_front geometry_back digest_around u16_at u32_at u64_at header_front descriptor descriptors flags_bytes tables_bytes header_core header_back flags_at header_at are_described header_holds tables_hold rows name_in is_name_field partition_of extent_of group_of device_of partition_bytes extent_bytes group_bytes device_bytes are_named_apart are_indexed are_laid are_known content_in names_hold sources_hold kinds_hold owned table_for runs_of
unit_rows = record { long = refl; stands = refl; units = refl; bytes = refl; written = refl; not_at_unit = refl; not_whole = refl; past_limit = refl; named_boot = refl }

pub returns : goal.returns
returns c = record { logicals = unit_rows; stands = stand_rows; layouts = layout_rows; refused = refused_rows; states = state_rows; runs = run_rows }

use Rattle.std.proofs.Common.{◌≡◌, ℕ, List, ◌+◌, ◌≤◌, length, get_or, option_map, Some, ap, sym, ◌∙◌, subst}
use Rattle.dev_disk.specs.Files.{written}
use Rattle.dev_disk.proofs.Writes.{length-written}
use Rattle.dev_disk.proofs.FileLists.{first-bytes, first-length, refilled, refilled-bytes, refills, first-set, path_at-set, length_at-set, file_of-set, file_of-set_other}
use Rattle.dev_disk.proofs.memory_files.overwrite_at.Goals as goal

same_length : (new old : List ℕ) (at : ℕ) (bytes : List ℕ) → new ≡ written old at bytes → at + length bytes ≤ length old → length new ≡ length old
same_length new old at bytes e h = ap length e ∙ length-written old at bytes h

pub returns-clause-first : goal.returns-clause-first
returns-clause-first c =
    let d = c.index-files-place.result in
    first-set c.args.files.now _ c.args.place (refilled (get_or c.args.files.now c.args.place d) c.overwrite.new.old) (refills _ _ d _ c.requires.first) _ c.requires.first

pub returns-clause-path : goal.returns-clause-path
returns-clause-path c =
    let d = c.index-files-place.result in
    path_at-set c.args.files.now _ c.args.place (refilled (get_or c.args.files.now c.args.place d) c.overwrite.new.old) (refills _ _ d _ c.requires.first) _

pub returns-clause-length : goal.returns-clause-length
returns-clause-length c =
    let d = c.index-files-place.result in
    let was = first-length c.args.files.now c.args.place d c.requires.first in
    let value = c.as_mut_slice.ensures.value in
    let fits : c.args.at + length c.args.bytes.now ≤ length c.as_mut_slice.result.now = subst (λ n. c.args.at + length c.args.bytes.now ≤ n) (was ∙ ap length (sym value)) c.requires.inside in
    length_at-set c.args.files.now _ c.args.place (refilled (get_or c.args.files.now c.args.place d) c.overwrite.new.old) (refills _ _ d _ c.requires.first)
    ∙ (ap length (refilled-bytes (get_or c.args.files.now c.args.place d) c.overwrite.new.old (same_length _ _ _ _ c.overwrite.ensures fits ∙ ap length value))
    ∙ (same_length _ _ _ _ c.overwrite.ensures fits ∙ (ap length value ∙ sym was)))

pub returns-clause-here : goal.returns-clause-here
returns-clause-here c =
    let d = c.index-files-place.result in
    let was = first-length c.args.files.now c.args.place d c.requires.first in
    let value = c.as_mut_slice.ensures.value in
    let fits : c.args.at + length c.args.bytes.now ≤ length c.as_mut_slice.result.now = subst (λ n. c.args.at + length c.args.bytes.now ≤ n) (was ∙ ap length (sym value)) c.requires.inside in
    file_of-set c.args.files.now _ c.args.place (refilled (get_or c.args.files.now c.args.place d) c.overwrite.new.old) (refills _ _ d _ c.requires.first)
    ∙ (ap Some (refilled-bytes (get_or c.args.files.now c.args.place d) c.overwrite.new.old (same_length _ _ _ _ c.overwrite.ensures fits ∙ ap length value) ∙ c.overwrite.ensures ∙ ap (λ old. written old c.args.at c.args.bytes.now) c.as_mut_slice.ensures.value)
    ∙ ap (option_map (λ old. written old c.args.at c.args.bytes.now)) (sym (first-bytes c.args.files.now c.args.place d c.requires.first)))

pub returns-clause-others : goal.returns-clause-others
returns-clause-others c =
    let d = c.index-files-place.result in
    file_of-set_other c.args.files.now _ c.args.place (refilled (get_or c.args.files.now c.args.place d) c.overwrite.new.old) (refills _ _ d _ c.requires.first)

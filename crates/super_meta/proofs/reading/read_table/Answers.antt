use Rattle.std.proofs.Common.{◌≡◌, List, ℕ, Result, Ok, Err, arith, sym, ◌∙◌}
use Rattle.std.specs.Prelude.{IfOk}
use Rattle.super_meta.specs.declared.errors.MetaError.{MetaError}
use Rattle.super_meta.specs.declared.errors.ReadError.{ReadError}
use Rattle.super_meta.specs.declared.table.Table.{Table}
use Rattle.fb_frame.specs.Bytes.{AreBytes}
use Rattle.super_meta.specs.Contents.{Content, content}
use Rattle.super_meta.specs.TableText.{table_of}
use Rattle.super_meta.specs.TableBytes.{TableBytes}
use Rattle.super_meta.proofs.TakenLemmas.{takes}
use Rattle.super_meta.proofs.GivenLemmas.{gives}
use Rattle.super_meta.proofs.reading.read_table.Goals as goal

found-by : (bytes : List ℕ) (result : Result Table ReadError) → AreBytes bytes → IfOk result (λ t. table_of bytes ≡ Ok (content t)) → IfOk result (λ t. TableBytes (content t) bytes)
found-by bytes (Ok t) b h = takes bytes (content t) b h
found-by bytes (Err e) b h = tt

ok-err : (c : Content) (e : MetaError) → Ok c ≡ Err e → ⊥
ok-err c e h = cc

pub returns-clause-found : goal.returns-clause-found
returns-clause-found c = found-by c.args.bytes.now c.table_in.result (λ i. omega (arith, c.type_inv.bytes i)) c.table_in.ensures.table

pub returns-clause-only : goal.returns-clause-only
returns-clause-only c = λ flaw e t h. ok-err t flaw (sym (gives c.args.bytes.now t h) ∙ c.table_in.ensures.flaw flaw e)

use Rattle.dev_store.proofs.LineLemmas.{product-line, serial-line, slots-line, download-line, variable-line, partition-line, super-line, no-line}
use Rattle.dev_store.proofs.layout_line.read_entry.Goals as goal

pub returns-in-Some : goal.returns-in-Some
returns-in-Some c = product-line c.args.line.now c.in-Some.text.now c.read_product.result c.in-Some.ensures c.read_product.ensures

pub returns-in-Some-after : goal.returns-in-Some-after
returns-in-Some-after c = serial-line c.args.line.now c.in-Some-after.text.now c.read_serial.result c.in-Some-after.ensures c.read_serial.ensures

pub returns-in-Some-after-2 : goal.returns-in-Some-after-2
returns-in-Some-after-2 c = slots-line c.args.line.now c.in-Some-after-2.text.now c.read_slots.result c.in-Some-after-2.ensures c.read_slots.ensures

pub returns-in-Some-after-3 : goal.returns-in-Some-after-3
returns-in-Some-after-3 c = download-line c.args.line.now c.in-Some-after-3.text.now c.read_download.result c.in-Some-after-3.ensures c.read_download.ensures

pub returns-in-Some-after-4 : goal.returns-in-Some-after-4
returns-in-Some-after-4 c = variable-line c.args.line.now c.in-Some-after-4.text.now c.read_variable.result c.in-Some-after-4.ensures c.read_variable.ensures

pub returns-in-Some-after-5 : goal.returns-in-Some-after-5
returns-in-Some-after-5 c = partition-line c.args.line.now c.in-Some-after-5.text.now c.read_partition.result c.in-Some-after-5.ensures c.read_partition.ensures

pub returns-in-Some-after-6 : goal.returns-in-Some-after-6
returns-in-Some-after-6 c = super-line c.args.line.now c.in-Some-after-6.text.now c.read_super.result c.in-Some-after-6.ensures c.read_super.ensures

pub returns-in_default-after-6 : goal.returns-in_default-after-6
returns-in_default-after-6 c =
    no-line c.args.line.now c.in_default.ensures c.in_default-after.ensures c.in_default-after-2.ensures c.in_default-after-3.ensures
    c.in_default-after-4.ensures c.in_default-after-5.ensures c.in_default-after-6.ensures

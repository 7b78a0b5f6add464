use Rattle.dev_store.proofs.DraftLemmas.{add-product, add-serial, add-slots, add-download, add-super, add-variable, add-partition}
use Rattle.dev_store.proofs.layout_draft.Draft.add.Goals as goal

pub returns-in-ProductLine : goal.returns-in-ProductLine
returns-in-ProductLine c = λ before g. add-product _ _ c.in-ProductLine.text _ before c.in-ProductLine.is c.keep_first.ensures g

pub returns-in-SerialLine : goal.returns-in-SerialLine
returns-in-SerialLine c = λ before g. add-serial _ _ c.in-SerialLine.text _ before c.in-SerialLine.is c.keep_first-in-SerialLine.ensures g

pub returns-in-SlotsLine : goal.returns-in-SlotsLine
returns-in-SlotsLine c = λ before g. add-slots _ _ c.in-SlotsLine.slots _ before c.in-SlotsLine.is c.keep_first-in-SlotsLine.ensures g

pub returns-in-DownloadLine : goal.returns-in-DownloadLine
returns-in-DownloadLine c = λ before g. add-download _ _ c.in-DownloadLine.most _ before c.in-DownloadLine.is c.keep_first-in-DownloadLine.ensures g

pub returns-in_ok-push-in-VariableLine : goal.returns-in_ok-push-in-VariableLine
returns-in_ok-push-in-VariableLine c = λ before g. add-variable _ _ c.in-VariableLine.variable _ before c.in-VariableLine.is c.in_ok-push-in-VariableLine.ensures.ok g

pub returns-in_ok-push-in-PartitionLine : goal.returns-in_ok-push-in-PartitionLine
returns-in_ok-push-in-PartitionLine c = λ before g. add-partition _ _ c.in-PartitionLine.part _ before c.in-PartitionLine.is c.in_ok-push-in-PartitionLine.ensures.ok g

pub returns-in-SuperLine : goal.returns-in-SuperLine
returns-in-SuperLine c = λ before g. add-super _ _ c.in-SuperLine.part _ before c.in-SuperLine.is c.keep_first-in-SuperLine.ensures g

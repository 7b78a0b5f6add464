-- The texts behind FAIL (this profile's own).
use Rattle.std.specs.Prelude.{ℕ, List, codes}
use Rattle.dev_model.specs.declared.refusal.Refusal.{Refusal}
use Rattle.dev_model.specs.declared.refusal.Refusal.TheVariants.{Locked, AlreadyLocked, UserspaceOnly, NothingDownloaded, DownloadTooLarge, NoSuchPartition, NameTaken, TooManyPartitions, NoSuchGroup, NotEnoughSpace, GroupFull, BadImage, ImageTooLarge, BadTable, NoSlots}

-- the text of a refusal
abbrev pub text_of : Refusal → List ℕ
text_of Locked = codes "locked"
text_of AlreadyLocked = codes "already locked"
text_of UserspaceOnly = codes "userspace only"
text_of NothingDownloaded = codes "nothing downloaded"
text_of DownloadTooLarge = codes "download too large"
text_of NoSuchPartition = codes "no such partition"
text_of NameTaken = codes "name taken"
text_of TooManyPartitions = codes "too many partitions"
text_of NoSuchGroup = codes "no such group"
text_of NotEnoughSpace = codes "not enough space"
text_of GroupFull = codes "group full"
text_of BadImage = codes "bad image"
text_of ImageTooLarge = codes "image too large"
text_of BadTable = codes "bad table"
text_of NoSlots = codes "no slots"

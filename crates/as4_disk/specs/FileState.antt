-- What a disk on files keeps of its calls.
use Rattle.std.specs.Prelude.{ℕ, Bool, is_some}
use Rattle.as4_disk.specs.declared.file.FileDisk.{FileDisk}
use Rattle.as4_disk.specs.declared.part.Part.{Part}
use Rattle.as4_disk.specs.declared.part.Part.TheVariants.{Selector, Leaf0, Leaf1}

abbrev pub file_faults : {F : Type 0} → FileDisk F → ℕ
file_faults disk = disk.faults

-- a sync of it has failed
abbrev pub is_lost : {F : Type 0} → FileDisk F → Bool
is_lost disk = disk.is_lost

-- the folder of this part's file is still to be synced
abbrev pub owes_folder : {F : Type 0} → FileDisk F → Part → Bool
owes_folder disk Selector = is_some disk.selector.folder
owes_folder disk Leaf0 = is_some disk.leaf0.folder
owes_folder disk Leaf1 = is_some disk.leaf1.folder

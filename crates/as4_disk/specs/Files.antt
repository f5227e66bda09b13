-- Three files as an image.
use Rattle.as4_disk.specs.declared.files.Files.{Files}
use Rattle.as4_disk.specs.declared.part.Part.TheVariants.{Selector, Leaf0, Leaf1}
use Rattle.as4_disk.specs.Image.{Image}

abbrev pub image_of : Files → Image
image_of files Selector = files.selector
image_of files Leaf0 = files.leaf0
image_of files Leaf1 = files.leaf1

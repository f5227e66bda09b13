use Rattle.std.proofs.Common.{◌≡◌, List, ℕ, length, take, drop, refl, ap, ◌∙◌, arith}
use Rattle.as4_disk.specs.Image.{Image}
use Rattle.as4_disk.specs.Memory.{DiskState, reads}
use Rattle.as4_disk.proofs.memory.MemoryDiskDisk.read_at.Goals as goal

pub copy_out-requires : goal.copy_out-requires
copy_out-requires c =
    let same : c.bytes.result.now ≡ reads c.args.self.now c.args.part =
    c.bytes.ensures ∙ ap (λ (disk : DiskState). reads disk c.args.part) c.in_ok-call.ensures.answers.1 in
    omega (arith, ap length same, c.requires (reads c.args.self.now) refl)

pub returns-clause-bytes : goal.returns-clause-bytes
returns-clause-bytes c image told =
    let same : c.bytes.result.now ≡ reads c.args.self.now c.args.part =
    c.bytes.ensures ∙ ap (λ (disk : DiskState). reads disk c.args.part) c.in_ok-call.ensures.answers.1 in
    let is_image : reads c.args.self.now ≡ image = cc in
    c.copy_out.ensures
    ∙ ap (λ (bytes : List ℕ). take (length c.args.room.now) (drop c.args.at bytes)) (same ∙ ap (λ (read : Image). read c.args.part) is_image)

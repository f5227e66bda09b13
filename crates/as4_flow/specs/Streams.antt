-- The reader or writer of a stream of the system, and its count of faults.
use Rattle.std.specs.Prelude.{ℕ}
use Rattle.as4_flow.specs.declared.standard.ReaderSource.{ReaderSource}
use Rattle.as4_flow.specs.declared.standard.WriterSink.{WriterSink}

abbrev pub reader_of : {R : Type 0} {g : _} → ReaderSource R g → R
reader_of source = source.reader

abbrev pub read_faults : {R : Type 0} {g : _} → ReaderSource R g → ℕ
read_faults source = source.faults

abbrev pub writer_of : {W : Type 0} → WriterSink W → W
writer_of sink = sink.writer

abbrev pub write_faults : {W : Type 0} → WriterSink W → ℕ
write_faults sink = sink.faults

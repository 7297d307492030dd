-- The state that a source over a reader and a sink over a writer show.
use Rattle.std.specs.Prelude.{◌-◌, ℕ, Bool, List, Option, slice_range}
use Rattle.std.specs.declared.io.traits.BufRead.{Ghosts as BufferedOf}
use Rattle.std.specs.declared.io.traits.Read.{Ghosts as ReadingOf}
use Rattle.ndef_message.specs.Machine.Readers.{left_of}
use Rattle.ndef_message.specs.declared.std_sink.StdSink.{StdSink}
use Rattle.ndef_message.specs.declared.std_source.StdSource.{StdSource}
use Rattle.ndef_message.specs.declared.std_source.Window.{Window}

-- the bytes of a copy in a window
abbrev pub bytes_in : List ℕ → Window → List ℕ
bytes_in copy window = slice_range copy window.start window.end

-- the bytes that are shown
abbrev pub bytes_shown : {R : Type 0} {buffered : BufferedOf R} {reading : ReadingOf R} → StdSource R buffered reading
    → List ℕ
bytes_shown s = bytes_in s.copy s.window

-- the bytes to come of a source
abbrev pub reader_coming : {R : Type 0} {buffered : BufferedOf R} {reading : ReadingOf R} → StdSource R buffered reading
    → Option (List ℕ)
reader_coming {buffered = buffered} {reading} s =
    left_of (reading.remaining s.reader) (buffered.consumable_len s.reader) s.fresh (bytes_shown s) s.pending

-- the number of bytes taken of it
abbrev pub reader_taken : {R : Type 0} {buffered : BufferedOf R} {reading : ReadingOf R} → StdSource R buffered reading
    → ℕ
reader_taken s = s.count

-- the number of bytes that it shows and that are not taken yet
abbrev pub reader_shown : {R : Type 0} {buffered : BufferedOf R} {reading : ReadingOf R} → StdSource R buffered reading
    → ℕ
reader_shown s = s.window.end - s.window.start

-- it has failed
abbrev pub reader_failed : {R : Type 0} {buffered : BufferedOf R} {reading : ReadingOf R} → StdSource R buffered reading
    → Bool
reader_failed s = s.has_failed

-- the bytes that its reader has left
abbrev pub reader_left : {R : Type 0} {buffered : BufferedOf R} {reading : ReadingOf R} → StdSource R buffered reading
    → Option (List ℕ)
reader_left {reading = reading} s = reading.remaining s.reader

-- the number of bytes taken of it that its reader still has
abbrev pub waiting : {R : Type 0} {buffered : BufferedOf R} {reading : ReadingOf R} → StdSource R buffered reading → ℕ
waiting s = s.pending

-- its reader showed its bytes, and none was taken since
abbrev pub is_fresh : {R : Type 0} {buffered : BufferedOf R} {reading : ReadingOf R} → StdSource R buffered reading
    → Bool
is_fresh s = s.fresh

-- the writer of a sink
abbrev pub writer_of : {W : Type 0} → StdSink W → W
writer_of s = s.writer

-- it has failed
abbrev pub writer_failed : {W : Type 0} → StdSink W → Bool
writer_failed s = s.has_failed

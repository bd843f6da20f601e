-- What a sink in memory took, and what its calls change.
use Rattle.std.specs.Prelude.{◌≡◌, ℕ, ◌<◌, ◌≤◌, ◌-◌, List, [], ◌++◌, Contains, length, take, min, vec_len, vec_capacity}
use Rattle.sig_edge.specs.Causes.{one_more}
use Rattle.sig_edge.specs.declared.memory_sink.MemSink.{MemSink}

-- the bytes that were taken
abbrev pub taken : MemSink → List ℕ
taken sink = sink.bytes.items

-- how many of its calls failed, or found no room
abbrev pub sink_faults : MemSink → ℕ
sink_faults sink = sink.faults

-- how many times it was written to, faults among them
abbrev pub sink_calls : MemSink → ℕ
sink_calls sink = sink.calls

-- the numbers of the calls, from 1, that are to fail
abbrev pub sink_failing : MemSink → List ℕ
sink_failing sink = sink.fail.items

-- how many bytes it can still take
abbrev pub free_room : MemSink → ℕ
free_room sink = sink.room - vec_len sink.bytes

-- how many bytes it takes at a call, at the most
abbrev pub most_taken : MemSink → ℕ
most_taken sink = sink.most

-- the number of its next call is among those that are to fail
abbrev pub FailsNext : MemSink → Type 0
FailsNext sink = Contains (sink_failing sink) (one_more (sink_calls sink))

-- the piece isn't empty, and there is no room for any of it
abbrev pub FindsNoRoom : MemSink → List ℕ → Type 0
FindsNoRoom sink piece = (0 < length piece) × (free_room sink ≡ 0)

-- the sink took nothing yet, has memory for `room` bytes, and takes up to `limit` bytes at a call
pub record IsNewSink (sink : MemSink) (room limit : ℕ) (fail : List ℕ) : Type 0 where
  pub took : taken sink ≡ []
  pub faults : sink_faults sink ≡ 0
  pub calls : sink_calls sink ≡ 0
  pub failing : sink_failing sink ≡ fail
  pub free : free_room sink ≡ room
  pub most : most_taken sink ≡ limit
  pub memory : room ≤ vec_capacity sink.bytes

-- a call and a fault were counted, and nothing else has changed
abbrev pub failed_once : MemSink → MemSink
failed_once sink = record sink { calls = one_more sink.calls; faults = one_more sink.faults }

-- the call took n bytes, as many as the piece, the room and the most at a call allow
pub record TakesPart (old new : MemSink) (piece : List ℕ) (n : ℕ) : Type 0 where
  pub count : n ≡ min (length piece) (min (most_taken old) (free_room old))
  pub took : taken new ≡ taken old ++ take n piece
  pub free : free_room new ≡ free_room old - n
  pub most : most_taken new ≡ most_taken old
  pub calls : sink_calls new ≡ one_more (sink_calls old)
  pub failing : sink_failing new ≡ sink_failing old

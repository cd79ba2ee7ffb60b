-- Lists of calls for heads whose memory holds packed tables.
-- Request 2026-04: "The heads' memory is to hold 92 bytes, not 156."
use Rattle.std.specs.Prelude.{ℕ, List, map}
use Rattle.packed.proofs.wilbryn_packed_fresh.Reads as fresh
use Rattle.packed.proofs.wilbryn_packed_milking.Reads as milking
use Rattle.packed.proofs.wilbryn_packed_meeting.Reads as meeting
use Rattle.packed.proofs.wilbryn_packed_settled.Reads as settled
use Rattle.packed.specs.Form.{unpacked}
use Rattle.parlour.specs.Call.{FreshBy, MilkingBy, MeetingBy}
use Rattle.parlour.specs.Run.{Images, Called, Calls, RunBy}
use Rattle.settled.specs.Call.{ReadBy, Form}

-- the calls on packed tables, by the readings of their contracts
abbrev pub packed_calls : Calls
packed_calls = record { fresh = FreshBy fresh.Learnt; milking = MilkingBy milking.Learnt; meeting = MeetingBy meeting.Learnt }

-- a list of them, from fresh packed tables
abbrev pub PackedRun : ℕ → List Called → Images → Type 0
PackedRun n calls images = RunBy packed_calls n calls images

-- and with the call for the numbers of request 2026-05: what a packed image stands for is its unpacked form
abbrev pub packed_form : Form
packed_form = record { calls = packed_calls; settled = ReadBy settled.Learnt; plain = unpacked }

-- all images, and those of a call, unpacked: its item, answer and verdicts are the same
abbrev pub unpacked_images : Images → Images
unpacked_images images p = unpacked (images p)

abbrev pub unpacked_call : Called → Called
unpacked_call c =
    record { item = c.item; before = unpacked_images c.before; answer = c.answer; after = unpacked_images c.after; verdicts = c.verdicts }

abbrev pub unpacked_calls : List Called → List Called
unpacked_calls calls = map unpacked_call calls

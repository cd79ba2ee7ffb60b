-- The calls on packed images: what comes back, and what every lent byte holds afterwards, refused or not.
-- Request 2026-04: "an output buffer of the wrong length is 8, after 1 to 6. Meeting, milking and list on packed tables must equal those on the plain ones."
use Rattle.std.specs.Prelude.{ℕ, not, cond, List, eqb, ltb, length}
use Rattle.image.specs.Layout.{length_of}
use Rattle.image.specs.Encode.{nothing}
use Rattle.image.specs.Check.{bad_stall}
use Rattle.image.specs.declared.Checked.{Checked}
use Rattle.image.specs.declared.Checked.TheVariants.{Good, Refused}
use Rattle.merge.specs.Call.{MeetingOutcome, meeting_call}
use Rattle.head.specs.Calls.{Outcome, refused, accepted, fresh_into, milked}
use Rattle.head.specs.Heard.{HeardOutcome, heard_from}
use Rattle.head.specs.Settled.{Settled, settled_from}
use Rattle.packed.specs.Form.{is_packed_count, packed_length, packed_image, packed, unpacked}
use Rattle.packed.specs.Check.{packed_checked, packable_checked}

-- some form of an image into a buffer, by the check of the image and the length of the form for N: a wrong one "is 8, after 1 to 6"
unfoldable pub into : List ℕ → Checked → (ℕ → ℕ) → List ℕ → Outcome
into form (Refused number) long out = refused number out
into form (Good h) long out = cond (not (eqb (length out) (long h.n))) (refused 8 out) (accepted form)

-- an image packed, and a packed image unpacked, into a buffer
abbrev pub pack_call : List ℕ → List ℕ → Outcome
pack_call s out = into (packed s) (packable_checked s) packed_length out

abbrev pub unpack_call : List ℕ → List ℕ → Outcome
unpack_call s out = into (unpacked s) (packed_checked s) length_of out

-- "A fresh table tries 1 for N, 2 for the buffer, 3."
unfoldable pub packed_fresh_call : List ℕ → ℕ → ℕ → Outcome
packed_fresh_call s n stall = fresh_into (not (is_packed_count n)) (not (eqb (length s) (packed_length n))) (bad_stall n stall) (packed_image n stall nothing) s

-- a milking: the header of a packed image is that of the plain one
abbrev pub packed_milking_call : List ℕ → ℕ → Outcome
packed_milking_call s yield = milked s yield (packed_checked s)

-- the heard list: that of the unpacked form
abbrev pub packed_heard_call : List ℕ → List ℕ → HeardOutcome
packed_heard_call s buffer = heard_from (unpacked s) buffer (packed_checked s)

-- who has heard it all (request 2026-05): the numbers of the unpacked form
abbrev pub packed_settled_call : List ℕ → List ℕ → Settled
packed_settled_call s buffer = settled_from (unpacked s) buffer (packed_checked s)

-- a meeting: that of the unpacked forms; a label, and what the plain meeting leaves, packed; or 256 plus a number, and every lent byte as before
unfoldable pub packed_after : List ℕ → List ℕ → List ℕ → MeetingOutcome → MeetingOutcome
packed_after s u buffer o =
    cond (ltb o.answer 256)
    (record { answer = o.answer; first = packed o.first; second = packed o.second; verdicts = o.verdicts })
    (record { answer = o.answer; first = s; second = u; verdicts = buffer })

abbrev pub packed_meeting_call : List ℕ → List ℕ → List ℕ → MeetingOutcome
packed_meeting_call s u buffer = packed_after s u buffer (meeting_call (unpacked s) (unpacked u) buffer)

-- The laws of `specs/Theory.antt` hold of every list.
use Prim.Native.Nat.{ℕ, ◌≤◌}
use mathlib.Core.Path.{◌≡◌, sym, ap, ◌∙◌}
use mathlib.Core.List.{List}
use Rattle.image.specs.Encode.{table_of}
use Rattle.image.specs.Check.{checked}
use Rattle.image.specs.Theory.{Passes}
use Rattle.image.proofs.Accepted.{accepted, checked_accepted}
use Rattle.image.proofs.AcceptedMade.{accepted_made}
use Rattle.image.proofs.MadeAccepted.{made_accepted}
use Rattle.merge.proofs.Theory as merge
use Rattle.head.specs.Heard.{heard_from}
use Rattle.head.specs.Settled.{settled_from}
use Rattle.head.proofs.Theory as head
use Rattle.packed.specs.Form.{largest_packed, packed, unpacked}
use Rattle.packed.specs.Check.{packed_checked}
use Rattle.packed.specs.Calls.{packed_milking_call, packed_meeting_call}
use Rattle.packed.specs.Theory.{PackedPasses, Theory}
use Rattle.packed.proofs.Forms.{packed_encodes, packed_unpacked}
use Rattle.packed.proofs.Unpacked.{unpacked_packed}
use Rattle.packed.proofs.Checks.{over_packed, over_packable, packable_checked_lem, good_packed, checked_unpacked, checked_plain}
use Rattle.packed.proofs.OwnNumber.{own_number}
use Rattle.packed.proofs.FreshPacked.{packed_fresh, fresh_same, fresh_over, fresh_zero, fresh_refused}
use Rattle.packed.proofs.MilkedPacked.{milking_same, milking_refused}
use Rattle.packed.proofs.MetPacked.{meeting_same, meeting_refused}

-- it unpacks to the image of what it says, which is well made
packed_checked_lem : (s : List ℕ) (n own : ℕ) → Passes s n own → n ≤ largest_packed → PackedPasses (packed s) n own
packed_checked_lem s n own e few =
    let w = accepted s _ e in
    let f = w.frame in
    sym (checked_unpacked (packed s))
    ∙ ap checked (packed_encodes w few)
    ∙ checked_accepted (made_accepted n own (table_of s n) f.n_from f.n_to f.own_from f.own_to (accepted_made w))

-- lists whose unpacked forms are checked alike are checked alike
checked_alike : (s out : List ℕ) {plain : List ℕ} → unpacked out ≡ plain → checked plain ≡ checked (unpacked s) → packed_checked out ≡ packed_checked s
checked_alike s out e f = sym (checked_unpacked out) ∙ ap checked e ∙ f ∙ checked_unpacked s

pub theory : Theory
theory =
    record {
      pack_unpack = λ s n own e. packed_unpacked (accepted s _ e);
      unpack_pack = λ s n own e. let w = good_packed s e in unpacked_packed s w.unpacks w.long;
      unpacked_checked = checked_unpacked;
      plain_checked = checked_plain;
      plain_passes = λ s n own e. (good_packed s e).plain;
      packed_checked_lem = packed_checked_lem;
      over_packed = over_packed;
      over_packable = over_packable;
      packable_checked_lem = packable_checked_lem;
      own_number = own_number;
      packed_fresh = packed_fresh;
      fresh_same = fresh_same;
      fresh_over = fresh_over;
      fresh_zero = fresh_zero;
      fresh_refused = fresh_refused;
      milking_same = milking_same;
      heard_same = λ s buffer. ap (heard_from (unpacked s) buffer) (sym (checked_unpacked s));
      settled_same = λ s buffer. ap (settled_from (unpacked s) buffer) (sym (checked_unpacked s));
      meeting_same = meeting_same;
      milking_refused = milking_refused;
      meeting_refused = meeting_refused;
      milking_checked = λ s yield. checked_alike s (packed_milking_call s yield).image (milking_same s yield).1 ((head.theory).milked_accepted (unpacked s) yield);
      meeting_checked = λ s u buffer.
          let (answer, first, second, verdicts) = meeting_same s u buffer in
          let (i, j) = (merge.theory).meeting_accepted (unpacked s) (unpacked u) buffer in
          (checked_alike s (packed_meeting_call s u buffer).first first i, checked_alike u (packed_meeting_call s u buffer).second second j);
    }

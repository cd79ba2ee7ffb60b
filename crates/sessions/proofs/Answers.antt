-- One line: what it is answered, and what it leaves.
use Prim.Native.Nat.{ℕ, ◌-◌, ◌*◌, ◌≤◌, ◌<◌}
use mathlib.Core.Path.{◌≡◌, refl, sym, ap, ap₂, subst, ◌∙◌}
use mathlib.Core.Bool.{Bool, true, false, cond, true≢false}
use mathlib.Core.List.{List, [], ◌∷◌, ◌++◌}
use native.Mathlib.Omega.{arith}
use borrow.Author.Tests.{eq-eqb, eqb-true, eqb-false, le-leb, lt-ltb}
use lib.Dec.{leb, eqb}
use lib.ListN.{length, take, replicate, length-replicate}
use lib.Seq.{take_at}
use Rattle.image.specs.Layout.{largest, yield_limit, is_count}
use Rattle.image.specs.Check.{bad_stall}
use Rattle.image.proofs.Accepted.{checked_accepted}
use Rattle.head.specs.Calls.{milking_call}
use Rattle.head.specs.Heard.{heard_count, heard_bytes, heard_list, heard_call}
use Rattle.head.proofs.HeardLists.{heard_few, length_heard_bytes}
use Rattle.head.proofs.HeardCalls.{heard_accepted}
use Rattle.head.specs.Settled.{settled_call}
use Rattle.merge.specs.Call.{meeting_call}
use Rattle.line.specs.Parlour.{heads_of, image_of, with_image, fresh_state}
use Rattle.line.specs.Answer.{Reply, refusal, answer_bytes, opening, milked_by, milking, meeting_of, meeting, showing, heard_by, hearing, settled_by, settling, reply_to}
use Rattle.line.specs.declared.frame.Frame.{Frame}
use Rattle.line.specs.declared.frame.Frame.TheVariants.{Open, Milking, Meeting, Show, Heard, Settled, Bad}
use Rattle.line.proofs.Replying.{count_range, stall_of}
use Rattle.parlour.specs.Item as Item
use Rattle.parlour.specs.Item.{counts, history}
use Rattle.parlour.specs.Run.{put}
use Rattle.parlour.specs.Claim.{is_accepted, refusal as refusal_of}
use Rattle.parlour.proofs.Milkings.{milking_claim, milking_kept}
use Rattle.parlour.proofs.Meetings.{meeting_claim, meeting_kept}
use Rattle.parlour.proofs.Existence.{milking_call_lem, meeting_call_lem}
use Rattle.settled.proofs.Settling.{answered}
use Rattle.sessions.specs.Lines.{opens, items_of}
use Rattle.sessions.specs.Answer.{answer_to}
use Rattle.sessions.proofs.Standing.{Open as IsOpen, kept_agree, kept_long, put_own, put_other, put_agree, placed, is_open, opened}

-- the records of a heard list, without the zeros behind them
list_bytes_lem : (s : List ℕ) (n own : ℕ) → n ≤ largest → let o = heard_list s n own in
    answer_bytes o.answer (o.answer ∷ take (3 * o.answer) o.records) ≡ 0 ∷ heard_count s n own ∷ heard_bytes s n own
list_bytes_lem s n own l =
    let few : heard_count s n own < 256 = omega (arith, heard_few s n own) in
    rw (lt-ltb (heard_count s n own) 256 few, take_at (heard_bytes s n own) (replicate (3 * n - 3 * heard_count s n own) 0) (3 * heard_count s n own) (length_heard_bytes s n own))

-- while a parlour is open
module _ (its : List Item.Item) (state : List ℕ) (w : IsOpen (history (heads_of state) its) state) where
  abbrev n : ℕ
  n = heads_of state

  abbrev l : List Item.Item
  l = history n its

  -- what a reply says and leaves
  pub record Step (frame : Frame) (reply : Reply) : Type 0 where
    pub answer : reply.bytes ≡ answer_to n l frame
    pub heads : heads_of reply.state ≡ n
    pub after : IsOpen (history n (items_of n frame ++ its)) reply.state

  count : is_count n ≡ true
  count = rw (le-leb 2 n w.kept.n_from, le-leb n largest w.kept.n_to)

  -- a reply that changes no byte, for a frame that makes no item
  stay : (frame : Frame) (bytes : List ℕ) → items_of n frame ≡ [] → bytes ≡ answer_to n l frame → Step frame (record { bytes = bytes; state = state })
  stay frame bytes e a = record { answer = a; heads = refl; after = subst (λ x. IsOpen (history n (x ++ its)) state) (sym e) w }

  show_step : (stall : ℕ) → Step (Show stall) (showing state stall)
  unfolding showing items_of
  show_step stall = go (bad_stall n stall) refl
    where
      go : (t : Bool) → bad_stall n stall ≡ t → Step (Show stall) (cond t (refusal state 3) (record { bytes = 0 ∷ image_of state stall; state = state }))
      go true e = stay (Show stall) (3 ∷ []) refl (rw (count, e))
      go false e =
          let r = stall_of n stall e in
          stay (Show stall) (0 ∷ image_of state stall) refl (rw (count, e) (ap (λ s. 0 ∷ s) (w.kept.is stall r.from r.to)))

  -- a milking at a stall that is there
  milked : (stall yield : ℕ) → bad_stall n stall ≡ false → Step (Milking stall yield) (milked_by state stall (milking_call (image_of state stall) yield))
  unfolding items_of history counts is_accepted refusal_of
  milked stall yield e =
      let r = stall_of n stall e in
      let o = milking_call (image_of state stall) yield in
      let call = milking_call_lem (image_of state stall) yield in
      let claim = milking_claim w.kept stall yield o.answer o.image r.from r.to call in
      let kept = milking_kept w.kept stall yield o.answer o.image r.from r.to call in
      let size = ap length (sym (put_own (image_of state) stall o.image)) ∙ kept_long kept stall r in
      let there = placed state w.long refl w.kept.n_from w.kept.n_to stall r o.image size in
      record {
        answer = rw (count, e) (go (leb yield yield_limit) refl claim.accepted claim.refused);
        heads = there.heads;
        after = rw e (is_open (with_image state stall o.image) there.long there.heads (kept_agree kept there.images));
      }
    where
      go : {answer : ℕ} (t : Bool) → leb yield yield_limit ≡ t → eqb answer 0 ≡ leb yield yield_limit → (leb yield yield_limit ≡ false → answer ≡ 4)
          → answer ∷ [] ≡ cond t (0 ∷ []) (4 ∷ [])
      go {answer} true e a f = ap (λ x. x ∷ []) (eqb-true answer 0 (a ∙ e))
      go false e a f = ap (λ x. x ∷ []) (f e)

  milk_step : (stall yield : ℕ) → Step (Milking stall yield) (milking state stall yield)
  unfolding milking items_of
  milk_step stall yield = go (bad_stall n stall) refl
    where
      go : (t : Bool) → bad_stall n stall ≡ t → Step (Milking stall yield) (cond t (refusal state 3) (milked_by state stall (milking_call (image_of state stall) yield)))
      go true e = stay (Milking stall yield) (3 ∷ []) (rw e) (rw (count, e))
      go false e = milked stall yield e

  -- the heard list of the stall's head
  heard_step : (stall : ℕ) → Step (Heard stall) (hearing state stall)
  unfolding hearing items_of
  heard_step stall = go (bad_stall n stall) refl
    where
      go : (t : Bool) → bad_stall n stall ≡ t → Step (Heard stall) (cond t (refusal state 3) (heard_by state (heard_call (image_of state stall) (replicate (3 * n) 0))))
      go true e = stay (Heard stall) (3 ∷ []) refl (rw (count, e))
      go false e =
          let r = stall_of n stall e in
          let good = checked_accepted (w.kept.good stall r.from r.to) in
          let said = ap (heard_by state) (heard_accepted (image_of state stall) (replicate (3 * n) 0) good (length-replicate {A = ℕ} (3 * n) 0)) in
          stay (Heard stall) (heard_by state (heard_call (image_of state stall) (replicate (3 * n) 0))).bytes refl
          (rw (count, e) (ap (λ x. x.bytes) said ∙ list_bytes_lem (image_of state stall) n stall w.kept.n_to
          ∙ ap (λ s. 0 ∷ heard_count s n stall ∷ heard_bytes s n stall) (w.kept.is stall r.from r.to)))

  -- the numbers of the stall's head
  settled_step : (stall : ℕ) → Step (Settled stall) (settling state stall)
  unfolding settling items_of
  settled_step stall = go (bad_stall n stall) refl
    where
      go : (t : Bool) → bad_stall n stall ≡ t → Step (Settled stall) (cond t (refusal state 3) (settled_by state (settled_call (image_of state stall) (replicate n 0))))
      go true e = stay (Settled stall) (3 ∷ []) refl (rw (count, e))
      go false e =
          let r = stall_of n stall e in
          let o = settled_call (image_of state stall) (replicate n 0) in
          let said = (answered w.kept stall r.from r.to {buffer = replicate n 0} {counts = o.counts} {answer = o.answer} refl).accepted (length-replicate {A = ℕ} n 0) in
          stay (Settled stall) (settled_by state o).bytes refl (rw (count, e) (rw said.0 (ap (λ c. 0 ∷ c) said.1)))

  -- a meeting of two stalls that are there
  meet_good : (p q : ℕ) → bad_stall n p ≡ false → bad_stall n q ≡ false → eqb p q ≡ false → Step (Meeting p q) (meeting_of state p q)
  unfolding meeting_of items_of history counts is_accepted
  meet_good p q e f g =
      let r = stall_of n p e in
      let u = stall_of n q f in
      let differ = eqb-false p q g in
      let buffer : List ℕ = replicate n 0 in
      let o = meeting_call (image_of state p) (image_of state q) buffer in
      let call = meeting_call_lem (image_of state p) (image_of state q) buffer in
      let claim = meeting_claim w.kept p q o.answer buffer o.first o.second o.verdicts r.from r.to u.from u.to differ call in
      let kept = meeting_kept w.kept p q o.answer buffer o.first o.second o.verdicts r.from r.to u.from u.to differ call in
      let whole : counts n (Item.meeting p q buffer) ≡ true = eq-eqb (length buffer) n (length-replicate {A = ℕ} n 0) in
      let one = put (image_of state) p o.first in
      let first_long = ap length (sym (put_other one q o.second p differ ∙ put_own (image_of state) p o.first)) ∙ kept_long kept p r in
      let second_long = ap length (sym (put_own one q o.second)) ∙ kept_long kept q u in
      let there = placed state w.long refl w.kept.n_from w.kept.n_to p r o.first first_long in
      let next = with_image state p o.first in
      let then = placed next there.long there.heads w.kept.n_from w.kept.n_to q u o.second second_long in
      record {
        answer = rw (count, e, f, g) (ap (λ t. cond t (0 ∷ o.answer ∷ o.verdicts) ((o.answer - 256) ∷ [])) (claim.accepted ∙ whole)
            ∙ ap₂ (λ a v. 0 ∷ a ∷ v) (claim.label p q buffer refl whole) (claim.verdicts p q buffer refl whole));
        heads = then.heads;
        after = rw (e, f, g) (is_open (with_image next q o.second) then.long then.heads (kept_agree kept (λ z i. then.images z i ∙ put_agree (image_of next) one q o.second z (there.images z i))));
      }

  meet_step : (p q : ℕ) → Step (Meeting p q) (meeting state p q)
  unfolding meeting items_of
  meet_step p q = go (bad_stall n p) (bad_stall n q) (eqb p q) refl refl refl
    where
      go : (t u v : Bool) → bad_stall n p ≡ t → bad_stall n q ≡ u → eqb p q ≡ v
          → Step (Meeting p q) (cond t (refusal state 3) (cond u (refusal state 3) (cond v (refusal state 7) (meeting_of state p q))))
      go true u v e f g = stay (Meeting p q) (3 ∷ []) (rw e) (rw (count, e))
      go false true v e f g = stay (Meeting p q) (3 ∷ []) (rw (e, f)) (rw (count, e, f))
      go false false true e f g = stay (Meeting p q) (7 ∷ []) (rw (e, f, g)) (rw (count, e, f, g))
      go false false false e f g = meet_good p q e f g

  -- any frame
  pub open_step : (frame : Frame) → Step frame (reply_to state true frame)
  unfolding items_of
  open_step Bad = stay Bad (10 ∷ []) refl refl
  open_step (Open m) = stay (Open m) (11 ∷ []) refl (rw count)
  open_step (Milking stall yield) = milk_step stall yield
  open_step (Meeting p q) = meet_step p q
  open_step (Show stall) = show_step stall
  open_step (Heard stall) = heard_step stall
  open_step (Settled stall) = settled_step stall

fresh_heads : (n : ℕ) → heads_of (fresh_state n) ≡ n
unfolding fresh_state
fresh_heads n = refl

-- before an opening
module _ (state : List ℕ) (n : ℕ) (none : is_count n ≡ false) where
  -- what a reply says, and what it leaves if it opens nothing
  pub record Shut (frame : Frame) (reply : Reply) : Type 0 where
    pub answer : reply.bytes ≡ answer_to n [] frame
    pub heads : is_count (opens frame) ≡ true → heads_of reply.state ≡ opens frame
    pub opened : is_count (opens frame) ≡ true → IsOpen [] reply.state
    pub same : is_count (opens frame) ≡ false → reply.state ≡ state

  stay_shut : (frame : Frame) (bytes : List ℕ) → is_count (opens frame) ≡ false → bytes ≡ answer_to n [] frame → Shut frame (record { bytes = bytes; state = state })
  stay_shut frame bytes e a =
      record { answer = a; heads = λ c. absurd (true≢false (sym c ∙ e)); opened = λ c. absurd (true≢false (sym c ∙ e)); same = λ c. refl }

  opening_step : (m : ℕ) → Shut (Open m) (opening state m)
  unfolding opening opens
  opening_step m = go (is_count m) refl
    where
      go : (t : Bool) → is_count m ≡ t → Shut (Open m) (cond t (record { bytes = 0 ∷ []; state = fresh_state m }) (refusal state 1))
      go true e =
          let (a, b) = count_range m e in
          let is : opens (Open m) ≡ m = rw e in
          record {
            answer = rw (none, e);
            heads = λ c. fresh_heads m ∙ sym is;
            opened = λ c. opened m a b;
            same = λ c. absurd (true≢false (sym e ∙ ap is_count (sym is) ∙ c));
          }
      go false e = stay_shut (Open m) (1 ∷ []) (rw e) (rw (none, e))

  pub shut_step : (frame : Frame) → Shut frame (reply_to state false frame)
  unfolding opens
  shut_step Bad = stay_shut Bad (10 ∷ []) refl refl
  shut_step (Open m) = opening_step m
  shut_step (Milking stall yield) = stay_shut (Milking stall yield) (11 ∷ []) refl (rw none)
  shut_step (Meeting p q) = stay_shut (Meeting p q) (11 ∷ []) refl (rw none)
  shut_step (Show stall) = stay_shut (Show stall) (11 ∷ []) refl (rw none)
  shut_step (Heard stall) = stay_shut (Heard stall) (11 ∷ []) refl (rw none)
  shut_step (Settled stall) = stay_shut (Settled stall) (11 ∷ []) refl (rw none)

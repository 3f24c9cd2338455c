-- Laws of an offer to a book's bytes: what is decided over them, and what the two writes make of them.
use Rattle.std.specs.Prelude.{None, Some}
use Prim.Native.Nat.{ℕ, ◌+◌, ◌≤◌}
use native.Mathlib.Omega.{arith}
use mathlib.Core.Path.{◌≡◌, refl, ap, sym, ◌∙◌, subst}
use mathlib.Core.Bool.{Bool}
use mathlib.Core.List.{List, [], ◌∷◌, ◌++◌, append-nil}
use lib.ListN.{length}
use lib.Dec.{eqb}
use Rattle.parts.specs.Bytes.{put_at, Bytes}
use Rattle.write.proofs.Laws.{put_nothing}
use Rattle.point.specs.Point.{Includes, Direct, PointInfo, prev_id}
use Rattle.point.specs.declared.data.PointRole.TheVariants.{Regular}
use Rattle.schedule.specs.Settings.{Settings}
use Rattle.schedule.specs.Code.{settings_of}
use Rattle.point.specs.Said.{said}
use Rattle.reasons.specs.Verdict as verdict
use Rattle.rules.specs.Judge.{Input, refused, admitted, verify_buffer, JudgeAnswer, Number, Given, answered, needed, before}
use Rattle.books.specs.Kept.{Kept, Book, Opened}
use Rattle.books.specs.Spread.{covers}
use Rattle.books.specs.Offer.{Offer, Result, used, offer_tested, before_in, marked_by, marked_in, answer_in, left_by, judged_as, offer_with, offer, offer_in, covered_by}
use Rattle.books.specs.Layout.{kept_bytes, entries_bytes, book_bytes, read_book}
use Rattle.books.specs.Calls.{laid_out, in_bytes, offer_to, offer_bytes}
use Rattle.books.proofs.RoundTrip.{settings-length}
use Rattle.books.proofs.Canonical.{BookOf, book-again}
use Rattle.books.proofs.Shape.{mark-shape, whole}
use Rattle.books.proofs.Spread.{covers-prev}
use Rattle.books.proofs.Offered.{Accepted, accepted, marked-used}
use Rattle.books.proofs.Judged.{unwritten}
use Rattle.books.proofs.Bytes.{append-bytes, unmarked-all}
use Rattle.book_read.specs.Code.{IsRead}
use Rattle.book_judge.specs.Code.{over_book}
use Rattle.book.specs.Code.{Marked, LeftAt, Ready, Refuses, Judges, Asks, ListJudged}
use Rattle.book.specs.declared.decide.Needs as code-needs
use Rattle.id_index.specs.declared.Index as code-index

-- ---- what a verdict leaves

-- an entry's bytes have nothing of its point but the record
left-bytes : (bytes : List ℕ) (p q : PointInfo) (v : verdict.Verdict) → entries_bytes (left_by bytes p v) ≡ entries_bytes (left_by bytes q v)
unfolding entries_bytes kept_bytes
left-bytes bytes p q (verdict.Fail u) = refl
left-bytes bytes p q (verdict.IllFormed r) = refl
left-bytes bytes p q (verdict.Invalid r) = refl
left-bytes bytes p q (verdict.TransInvalid d) = refl
left-bytes bytes p q verdict.Valid = refl

-- so those of any point's entry serve
any : PointInfo
any = record {
  id = record { round = 0; digest = 0; author = 0 };
  payload_len = 0;
  payload_bytes = 0;
  includes = [];
  witness = [];
  evidence = [];
  anchor_proof = Direct (Includes 0);
  anchor_trigger = Direct (Includes 0);
  role = Regular;
  time = 0;
  anchor_time = 0;
}

module _ (settings : List ℕ) (len : ℕ) (b : Book) (at : ℕ) (l : length settings ≡ 47) (e : at ≡ 47 + used b) where
  append-none : put_at (book_bytes settings len b) at (entries_bytes []) ≡ book_bytes settings len (b ++ [])
  unfolding entries_bytes
  append-none = put_nothing (book_bytes settings len b) at ∙ ap (book_bytes settings len) (sym (append-nil b))

  append-one : (k : Kept) → put_at (book_bytes settings len b) at (entries_bytes (k ∷ [])) ≡ book_bytes settings len (b ++ (k ∷ []))
  unfolding entries_bytes
  append-one k = ap (put_at (book_bytes settings len b) at) (append-nil (kept_bytes k)) ∙ append-bytes settings len b k at l e

  append_left : (bytes : List ℕ) (p : PointInfo) (v : verdict.Verdict) →
      put_at (book_bytes settings len b) at (entries_bytes (left_by bytes p v)) ≡ book_bytes settings len (b ++ left_by bytes p v)
  append_left bytes p (verdict.Fail u) = append-none
  append_left bytes p (verdict.IllFormed r) = append-one _
  append_left bytes p (verdict.Invalid r) = append-one _
  append_left bytes p (verdict.TransInvalid d) = append-one _
  append_left bytes p verdict.Valid = append-one _

-- what `keep` does

pub left-none : (s : List ℕ) (end : ℕ) (l : List Kept) → l ≡ [] → s ≡ put_at s end (entries_bytes l)
unfolding entries_bytes
left-none s end l e = rw e (sym (put_nothing s end))

pub left_one : (s t : List ℕ) (end : ℕ) (l : List Kept) (k : Kept) → l ≡ k ∷ [] → t ≡ put_at s end (kept_bytes k) → t ≡ put_at s end (entries_bytes l)
unfolding entries_bytes
left_one s t end l k e f = rw (e, append-nil (kept_bytes k)) f

-- ---- a number in place of a verdict

module _ (s : List ℕ) (o : Offer) where
  pub unread : read_book s ≡ None → Refuses s o 10 o.peers
  unfolding offer_bytes
  unread h = ap (offer_to s o) h

  -- what is answered and written is what the offer gives
  abbrev pub Written : JudgeAnswer → List ℕ → List ℕ → Type 0
  Written a buffer last = (a ≡ (offer_bytes s o).answer) × ((buffer ≡ (offer_bytes s o).peers) × (last ≡ (offer_bytes s o).after))

-- ---- over the bytes of a book that was read

module _ (s : List ℕ) (w : Bytes s) (z : Opened) (r : read_book s ≡ Some z) where
  again : BookOf s z
  again = book-again s z w r

  ends-within : 47 + used z.book ≤ length s
  ends-within = omega (arith, again.room)

  -- the offer

  module _ (o : Offer) where
    to-book : offer_bytes s o ≡ in_bytes (offer z o)
    unfolding offer_bytes
    to-book = ap (offer_to s o) r

    as_found : laid_out z ≡ s
    unfolding laid_out
    as_found = rw again.whole (sym again.bytes)

    -- a number that comes of the tests
    number-result : (n : ℕ) → offer_tested z o ≡ refused n → Refuses s o n o.peers
    unfolding offer_in offer_with
    number-result n t =
        to-book ∙ (ap (λ x. in_bytes (offer_with z o x)) t ∙ ap (λ (l : List ℕ). record { answer = Number n; peers = o.peers; after = l }) as_found)

    module _ (i : Input) (t : offer_tested z o ≡ admitted i) where
      taken-result : (a : JudgeAnswer) → answer_in z i o.leader ≡ a → offer_bytes s o ≡ in_bytes (judged_as z o i a)
      unfolding offer_in offer_with
      taken-result a e = to-book ∙ (ap (λ x. in_bytes (offer_with z o x)) t ∙ ap (λ (x : JudgeAnswer). in_bytes (judged_as z o i x)) e)

      module _ (end : ℕ) (e : end ≡ 47 + used z.book) where
        room-left : end + length o.bytes + 108 ≤ length s
        room-left = omega (arith, (accepted z o i t).room, ends-within, again.whole)

        -- what an offer with a verdict leaves stands after the entries with its marks
        verdict-left : (v : verdict.Verdict) → answer_in z i o.leader ≡ Given v → (b : Book) → marked_in z i o.leader ≡ b →
            LeftAt (book_bytes z.bytes (length s) b) end o.bytes v (offer_bytes s o).after
        unfolding marked_in laid_out
        verdict-left v g b m = λ q.
            let l = settings-length _ _ again.reads in
            let u : used b ≡ used z.book = ap used (sym m) ∙ marked-used i.settings i.point z.book (before_in i o.leader) in
            ap (λ (y : Result (List ℕ)). y.after) (taken-result (Given v) g)
            ∙ (ap (λ (n : ℕ). book_bytes z.bytes n (marked_in z i o.leader ++ left_by o.bytes i.point v)) again.whole
            ∙ (ap (λ (a : Book). book_bytes z.bytes (length s) (a ++ left_by o.bytes i.point v)) m
            ∙ (sym (append_left z.bytes (length s) b end l (omega arith) o.bytes i.point v)
            ∙ ap (put_at (book_bytes z.bytes (length s) b) end) (left-bytes o.bytes i.point q v))))

        module _ (buffer : List ℕ) (f : buffer ≡ verify_buffer (admitted i) o.peers) where
          -- a number before a list is needed
          refused_before : (n : ℕ) → before_in i o.leader ≡ answered (Number n) → Refuses s o n buffer
          unfolding answer_in marked_in
          refused_before n x =
              rw (f ∙ unwritten i o.leader n o.peers x)
              (taken-result (Number n) (rw x) ∙ ap (λ (l : List ℕ). record { answer = Number n; peers = o.peers; after = l }) as_found)

          -- a verdict before a list is needed; it marks nothing
          judged_before : (v : verdict.Verdict) → before_in i o.leader ≡ answered (Given v) → Judges s o v end buffer
          unfolding answer_in marked_in
          judged_before v x =
              let g : answer_in z i o.leader ≡ Given v = rw x in
              let r = taken-result (Given v) g in
              record {
                answer = sym (ap (λ (y : Result (List ℕ)). y.answer) r);
                peers = f ∙ sym (ap (λ (y : Result (List ℕ)). y.peers) r);
                room = room-left;
                bytes = subst (λ (l : List ℕ). LeftAt l end o.bytes v (offer_bytes s o).after) (sym again.bytes)
                    (verdict-left v g z.book (ap (marked_by i.settings i.point z.book) x));
              }

          -- a verdict by the list over the book with its marks
          listed : (required : Bool) → before_in i o.leader ≡ needed required → (v : verdict.Verdict) (last : List ℕ) →
              v ≡ over_book i.settings required i.point (covered_by i.settings i.point z.book) →
              LeftAt (book_bytes z.bytes (length s) (covered_by i.settings i.point z.book)) end o.bytes v last → Written s o (Given v) buffer last
          unfolding answer_in marked_in
          listed required x v last given left =
              let k = accepted z o i t in
              let c = i.settings in
              let p = i.point in
              let b = covered_by c p z.book in
              let m : marked_in z i o.leader ≡ b = ap (marked_by c p z.book) x in
              let g : answer_in z i o.leader ≡ Given v =
              rw x (whole c required o.bytes p b (mark-shape (covers c z.book (prev_id p)) z.book again.shape) (covers-prev c z.book (prev_id p)) k.read k.domain)
              ∙ ap Given (sym given) in
              let r = taken-result (Given v) g in (
                sym (ap (λ (y : Result (List ℕ)). y.answer) r),
                (
                  f ∙ sym (ap (λ (y : Result (List ℕ)). y.peers) r),
                  left any ∙ sym (verdict-left v g b m any),
                ),
              )

-- ---- what is decided

module _ {s : List ℕ} {o : Offer} {buffer : List ℕ} where
  -- a verdict, with what it leaves
  pub verdict-written : {v : verdict.Verdict} {end : ℕ} → Judges s o v end buffer → (last : List ℕ) → LeftAt s end o.bytes v last → Written s o (Given v) buffer last
  verdict-written h last l = (h.answer, (h.peers, l any ∙ sym (h.bytes any)))

-- ---- an offer to a book that was read

module _ {s : List ℕ} {c : Settings} {end : ℕ} {x : code-index.Index} (h : IsRead s c end x) (w : Bytes s) where
  -- a number that comes of the tests
  pub refused-answers : (o : Offer) (m : ℕ) → offer_tested h.opened o ≡ refused m → Refuses s o m o.peers
  refused-answers o m t = number-result s w h.opened h.read o m t

  pub end-within : end ≤ length s
  end-within = omega (arith, h.ends, ends-within s w h.opened h.read)

-- one that passed the tests
module _ {s : List ℕ} {o : Offer} {c : Settings} {end : ℕ} {x : code-index.Index} {i : Input} (h : Ready s o c end x i) (w : Bytes s) where
  pub ready-room : end + length o.bytes + 108 ≤ length s
  ready-room = room-left s w h.read.opened h.read.read o i h.taken end h.read.ends

  module _ (buffer : List ℕ) (f : buffer ≡ verify_buffer (admitted i) o.peers) where
    pub ready-refused : (n : ℕ) → before i.settings i.schedule (eqb o.leader 1) i.point ≡ answered (Number n) → Refuses s o n buffer
    unfolding before_in
    ready-refused n e = refused_before s w h.read.opened h.read.read o i h.taken end h.read.ends buffer f n e

    pub ready-judged : (v : verdict.Verdict) → before i.settings i.schedule (eqb o.leader 1) i.point ≡ answered (Given v) → Judges s o v end buffer
    unfolding before_in
    ready-judged v e = judged_before s w h.read.opened h.read.read o i h.taken end h.read.ends buffer f v e

-- one whose list is needed
module _ {s : List ℕ} {o : Offer} {n : code-needs.Needs} {x : code-index.Index} {buffer : List ℕ} (q : Asks s o n x buffer) (w : Bytes s) where
  taken : Accepted q.ready.read.opened o q.input
  taken = accepted q.ready.read.opened o q.input q.ready.taken

  pub list_written : (v : verdict.Verdict) (last : List ℕ) → ListJudged s x n v last → Written s o (Given v) buffer last
  list_written v last l =
      let h = q.ready.read in
      let z = h.opened in
      let r = l h (rw q.point at taken.domain) in
      let same : settings_of n.conf ≡ q.input.settings = h.settings ∙ sym taken.settings in
      let given = subst (λ (p : PointInfo). v ≡ over_book (settings_of n.conf) n.required p (covered_by (settings_of n.conf) p z.book)) (sym q.point) r.0 in
      let left = subst (λ (p : PointInfo). LeftAt (book_bytes z.bytes (length s) (covered_by (settings_of n.conf) p z.book)) n.end o.bytes v last) (sym q.point)
      (subst (λ (l : List ℕ). LeftAt (book_bytes z.bytes (length s) (covered_by (settings_of n.conf) (said n.point) z.book)) n.end l v last) q.bytes r.1) in
      listed s w z h.read o q.input q.ready.taken n.end h.ends buffer q.peers n.required q.list v last
      (subst (λ (c : Settings). v ≡ over_book c n.required q.input.point (covered_by c q.input.point z.book)) same given)
      (subst (λ (c : Settings). LeftAt (book_bytes z.bytes (length s) (covered_by c q.input.point z.book)) n.end o.bytes v last) same left)

-- ---- without a previous point nothing is marked

pub none-marked : (c : Settings) (p : PointInfo) (s : List ℕ) → Bytes s → prev_id p ≡ None → Marked c p s s
unfolding covers
none-marked c p s w h = λ z r. rw h ((book-again s z w r).bytes ∙ ap (book_bytes z.bytes (length s)) (sym (unmarked-all (covers c z.book None) z.book (λ k m. refl))))

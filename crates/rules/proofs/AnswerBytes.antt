-- An answer whose numbers fit their bytes is told by its 114 bytes.
use Prim.Native.Nat.{ℕ, ◌^◌, ◌<◌}
use native.Mathlib.Omega.{arith}
use mathlib.Core.Path.{◌≡◌, refl, ap, sym, ◌∙◌}
use mathlib.Core.List.{List, [], ◌∷◌, ◌++◌}
use lib.ListN.{length}
use Rattle.parts.specs.Bytes.{little, big, little_bytes, big_bytes}
use Rattle.write.proofs.Laws.{bytes-length, big-bytes}
use Rattle.parts.proofs.Laws.{little-length, little-back}
use Rattle.reasons.specs.Answer.{Answer}
use Rattle.rules.specs.Answer.{head_bytes, number_bytes, root_bytes, answer_bytes}
use Rattle.point.proofs.Fits.{IdFits}

pub record AnswerFits (a : Answer) : Type 0 where
  pub id : IdFits a.id
  pub first : a.first < 256 ^ 4
  pub second : a.second < 256 ^ 4
  pub peer : a.peer < 256 ^ 32

-- two lists in two parts, the first of one length
parts_same : (a b c d : List ℕ) → length a ≡ length b → a ++ c ≡ b ++ d → (a ≡ b) × (c ≡ d)
parts_same [] [] c d n h = (refl, h)
parts_same [] (y ∷ b) c d n h = absurd (omega arith)
parts_same (x ∷ a) [] c d n h = absurd (omega arith)
parts_same (x ∷ a) (y ∷ b) c d n h =
    let e : x ≡ y = cc in
    let f : a ++ c ≡ b ++ d = cc in
    let r = parts_same a b c d (omega arith) f in
    (cc, r.1)

-- a number that fits, and what stands after it
module _ (n x y : ℕ) (c d : List ℕ) (f : x < 256 ^ n) (g : y < 256 ^ n) where
  little-same : little_bytes n x ++ c ≡ little_bytes n y ++ d → (x ≡ y) × (c ≡ d)
  little-same h =
      let r = parts_same (little_bytes n x) (little_bytes n y) c d (little-length n x ∙ sym (little-length n y)) h in
      (sym (little-back n x f) ∙ ap little r.0 ∙ little-back n y g, r.1)

  big-same : big_bytes n x ++ c ≡ big_bytes n y ++ d → (x ≡ y) × (c ≡ d)
  big-same h =
      let r = parts_same (big_bytes n x) (big_bytes n y) c d (bytes-length n x ∙ sym (bytes-length n y)) h in
      (sym (big-bytes n x f) ∙ ap big r.0 ∙ big-bytes n y g, r.1)

head-length : (a : Answer) → length (head_bytes a) ≡ 70
unfolding head_bytes little_bytes big_bytes
head-length a = refl

number-length : (a : Answer) → length (number_bytes a) ≡ 10
unfolding number_bytes little_bytes
number-length a = refl

pub answer-length : (a : Answer) → length (answer_bytes a) ≡ 114
unfolding answer_bytes head_bytes number_bytes root_bytes little_bytes big_bytes
answer-length a = refl

-- two bytes, and what stands after them
two-same : (x y z w : ℕ) (c d : List ℕ) → ◌≡◌ {A = List ℕ} (x ∷ y ∷ c) (z ∷ w ∷ d) → (x ≡ z) × (y ≡ w) × (c ≡ d)
two-same x y z w c d h = (cc, cc, cc)

module _ (a b : Answer) (f : AnswerFits a) (g : AnswerFits b) where
  head-same : head_bytes a ≡ head_bytes b → (a.kind ≡ b.kind) × (a.reason ≡ b.reason) × (a.id ≡ b.id)
  unfolding head_bytes
  head-same h =
      let t = two-same _ _ _ _ _ _ h in
      let r = little-same 4 a.id.round b.id.round _ _ f.id.round g.id.round t.2 in
      let x = big-same 32 a.id.digest b.id.digest _ _ f.id.digest g.id.digest r.1 in
      let y = big-same 32 a.id.author b.id.author [] [] f.id.author g.id.author (ap (λ (l : List ℕ). l ++ []) x.1) in
      (t.0, t.1, λ k. record { round = r.0 k; digest = x.0 k; author = y.0 k })

  number_same : number_bytes a ≡ number_bytes b → (a.map ≡ b.map) × (a.role ≡ b.role) × (a.first ≡ b.first) × (a.second ≡ b.second)
  unfolding number_bytes
  number_same h =
      let t = two-same _ _ _ _ _ _ h in
      let r = little-same 4 a.first b.first _ _ f.first g.first t.2 in
      let x = little-same 4 a.second b.second [] [] f.second g.second (ap (λ (l : List ℕ). l ++ []) r.1) in
      (t.0, t.1, r.0, x.0)

  root-same : root_bytes a ≡ root_bytes b → (a.root_reason ≡ b.root_reason) × (a.peer ≡ b.peer) × (a.unknown ≡ b.unknown)
  unfolding root_bytes
  root-same h =
      let t = two-same 0 _ 0 _ _ _ (ap (◌∷◌ 0) h) in
      let r = big-same 32 a.peer b.peer _ _ f.peer g.peer t.2 in
      (t.1, r.0, (two-same 0 _ 0 _ [] [] (ap (◌∷◌ 0) r.1)).1)

  pub answer-same : answer_bytes a ≡ answer_bytes b → a ≡ b
  unfolding answer_bytes
  answer-same h =
      let p = parts_same (head_bytes a) (head_bytes b) _ _ (head-length a ∙ sym (head-length b)) h in
      let q = parts_same (number_bytes a) (number_bytes b) _ _ (number-length a ∙ sym (number-length b)) p.1 in
      let x = head-same p.0 in
      let y = number_same q.0 in
      let z = root-same q.1 in
      λ k. record {
        kind = x.0 k;
        reason = x.1 k;
        id = x.2 k;
        map = y.0 k;
        role = y.1 k;
        first = y.2 k;
        second = y.3 k;
        root_reason = z.0 k;
        peer = z.1 k;
        unknown = z.2 k;
      }

-- Refusal 31 as facts: what the test `fits` says of a state, both ways (`fits-facts`, `facts-fits`).
use Rattle.std.specs.Prelude.{ℕ, ◌*◌, ◌/◌, ◌^◌, ◌≤◌, ◌<◌, ◌≡◌, ◌≢◌, ◌⊎◌, Bool, true, not, cond, ◌&&◌, ◌||◌, List, [], ◌∷◌, length, get_or, eqb}
use native.Mathlib.Omega.{arith}
use Rattle.std.proofs.Math.Path.{refl, ap}
use Rattle.std.proofs.Common.{◌∙◌, ⊎_elim}
use Rattle.std.proofs.Math.Logic.{inl, inr}
use Rattle.std.proofs.Math.Bool.{false, and-eq-true_iff}
use Rattle.std.proofs.Math.Dec.{ltb, leb}
use borrow.Author.Tests.{ltb-true, leb-true, eqb-true, eqb-false, not-true, lt-ltb, le-leb, eq-eqb, ne_eqb}
use Rattle.base.proofs.laws.Cond.{eqb-cases}
use Rattle.base.specs.Limits.{max_links}
use Rattle.base.specs.None.{none}
use Rattle.base.specs.Test.{every}
use Rattle.base.proofs.laws.Test.{every-all, all-every}
use Rattle.base.specs.Pool.{All, nil, con}
use Rattle.base.proofs.laws.Pool.{All-map}
use Rattle.format_message.specs.Msg.{Msg, connect, initiate, test, accept, reject, report, change}
use Rattle.format_message.specs.Header.{parts_of, carried_of, level_at}
use Rattle.format_message.specs.Listed.{Listed, listed}
use Rattle.format_message.proofs.laws.Byte.{parts-of-byte}
use Rattle.format_message.proofs.laws.Means.{Means, means, in-bits}
use Rattle.format_word.specs.Word.{header_in, carried_in, link_in, laid_out, shaped, hand_over}
use Rattle.format_word.proofs.laws.Word.{over, over-laid-out, packs-laid-out}
use Rattle.node.specs.declared.Node.{Node}
use Rattle.node.specs.Work.{Own, Send, ASLEEP, FOUND, REJECTED, degree}
use Rattle.field.specs.Edges.{is_own, own_of, limit_of, ceiling_of, end_of}
use Rattle.field.specs.State.{State, node_at, msg_in, word_of, posted}
use Rattle.field.specs.Valid.{all_of, link_or_none, own_or_none, word_fits, values_listed, identity_fits, waking_fits, node_fits, fits}
use Rattle.plan.proofs.laws.Accepted.{Accepted}
use Rattle.plan.proofs.laws.Ceiling.{level-small}
use Rattle.plan.specs.Links.{Plan, modules_of, links_of}
use Rattle.field_laws.proofs.Places.{own-link-below, over_below}
use Rattle.field_laws.proofs.Sends.{Packs, over-16, word-parts}
use Rattle.field_laws.proofs.Lists.{LinkOrNone, OwnOrNone, NodeOk, MsgOk, SendOk}

pub record FieldFits (p : Plan) (s : State) : Type 0 where
  pub words : All (λ w. word_fits p w ≡ true) s.words
  pub nodes : (v : ℕ) → v < modules_of p → NodeOk (own_of p v) (limit_of p) (node_at s v)
  pub marks : (d : ℕ) → d < 2 * links_of p → get_or s.marks d 0 ≤ REJECTED
  pub waiting : length s.words ≤ s.sent
  pub ceiling : s.sent ≤ ceiling_of p

-- ---- conjunctions and choices

two : (a b : Bool) → (a && b) ≡ true → (a ≡ true) × (b ≡ true)
two a b e = (and-eq-true_iff a b).0 e

pair : (a b : Bool) → a ≡ true → b ≡ true → (a && b) ≡ true
pair a b x y = (and-eq-true_iff a b).1 (x, y)

four : (a b c d : Bool) → (a && b && c && d) ≡ true → (a ≡ true) × (b ≡ true) × (c ≡ true) × (d ≡ true)
four a b c d e =
    let x = two (a && b && c) d e in
    let y = two (a && b) c x.0 in
    let z = two a b y.0 in
    (z.0, z.1, y.1, x.1)

all-four : (a b c d : Bool) → a ≡ true → b ≡ true → c ≡ true → d ≡ true → (a && b && c && d) ≡ true
all-four a b c d w x y z = pair (a && b && c) d (pair (a && b) c (pair a b w x) y) z

some : (a b : Bool) → (a || b) ≡ true → (a ≡ true) ⊎ (b ≡ true)
some true b e = inl refl
some false b e = inr e

left : (a b : Bool) → a ≡ true → (a || b) ≡ true
left a b e = rw e

right : (a b : Bool) → b ≡ true → (a || b) ≡ true
right true b e = refl
right false b e = e

pub all-of : (q : ℕ → Bool) (l : List ℕ) → all_of q l ≡ true → All (λ x. q x ≡ true) l
unfolding all_of
all-of q [] e = nil
all-of q (x ∷ l) e = let h = two (q x) (all_of q l) e in con h.0 (all-of q l h.1)

pub of-all : (q : ℕ → Bool) {l : List ℕ} → All (λ x. q x ≡ true) l → all_of q l ≡ true
unfolding all_of
of-all q nil = refl
of-all q (con {x} {xs} h t) = pair (q x) (all_of q xs) h (of-all q t)

module _ (p : Plan) (v x : ℕ) where
  link-none : link_or_none p x ≡ true → LinkOrNone (own_of p v) x
  link-none e = ⊎_elim (λ a. inl (eqb-true x none a)) (λ b. inr (ltb-true x (links_of p) b)) (some (eqb x none) (ltb x (links_of p)) e)

  none-link : LinkOrNone (own_of p v) x → link_or_none p x ≡ true
  none-link h = ⊎_elim (λ a. left (eqb x none) _ (eq-eqb x none a)) (λ b. right (eqb x none) _ (lt-ltb x (links_of p) b)) h

  own-none : own_or_none p v x ≡ true → OwnOrNone (own_of p v) x
  own-none e = ⊎_elim (λ a. inl (eqb-true x none a)) (λ b. inr b) (some (eqb x none) (is_own p v x) e)

  none-own : OwnOrNone (own_of p v) x → own_or_none p v x ≡ true
  none-own h = ⊎_elim (λ a. left (eqb x none) _ (eq-eqb x none a)) (λ b. right (eqb x none) _ b) h

-- ---- a node

module _ (p : Plan) (v : ℕ) (n : Node) where
  identity-facts : identity_fits n ≡ true → (n.level ≡ 0 → n.identity ≡ none) × (n.level ≢ 0 → n.identity ≢ none)
  identity-facts = eqb-cases n.level 0 (λ b. cond b (eqb n.identity none) (not (eqb n.identity none)) ≡ true → (n.level ≡ 0 → n.identity ≡ none) × (n.level ≢ 0 → n.identity ≢ none))
      (λ q e. (λ z. eqb-true _ _ e, λ z. absurd (z q)))
      (λ q e. (λ z. absurd (q z), λ z. eqb-false _ _ (not-true _ e)))

  facts-identity : (n.level ≡ 0 → n.identity ≡ none) → (n.level ≢ 0 → n.identity ≢ none) → identity_fits n ≡ true
  facts-identity a b = eqb-cases n.level 0 (λ t. cond t (eqb n.identity none) (not (eqb n.identity none)) ≡ true)
      (λ q. eq-eqb _ _ (a q))
      (λ q. ap not (ne_eqb _ _ (b q)))

  waking-facts : waking_fits n ≡ true → n.status ≡ ASLEEP → n.waking ≡ none
  waking-facts e z = eqb-true n.waking none (rw (eq-eqb _ _ z) at e)

  facts-waking : (n.status ≡ ASLEEP → n.waking ≡ none) → waking_fits n ≡ true
  facts-waking h = eqb-cases n.status ASLEEP (λ b. (not b || eqb n.waking none) ≡ true) (λ z. eq-eqb _ _ (h z)) (λ z. refl)

  pub node-facts : node_fits p v n ≡ true → NodeOk (own_of p v) (limit_of p) n
  unfolding node_fits
  node-facts e =
      let g = two (values_listed p v n && leb n.level (limit_of p) && leb n.count (degree (own_of p v)) && identity_fits n) (waking_fits n) e in
      let a = four (values_listed p v n) (leb n.level (limit_of p)) (leb n.count (degree (own_of p v))) (identity_fits n) g.0 in
      let h = two (leb n.status FOUND && link_or_none p n.identity && link_or_none p n.weight && own_or_none p v n.best && own_or_none p v n.test && own_or_none p v n.branch && leb n.halted 1) (own_or_none p v n.waking) a.0 in
      let b = four (leb n.status FOUND && link_or_none p n.identity && link_or_none p n.weight && own_or_none p v n.best) (own_or_none p v n.test) (own_or_none p v n.branch) (leb n.halted 1) h.0 in
      let c = four (leb n.status FOUND) (link_or_none p n.identity) (link_or_none p n.weight) (own_or_none p v n.best) b.0 in
      let d = identity-facts a.3 in
      record {
        status = leb-true _ _ c.0;
        level = leb-true _ _ a.1;
        identity = link-none p v _ c.1;
        weight = link-none p v _ c.2;
        best = own-none p v _ c.3;
        test = own-none p v _ b.1;
        branch = own-none p v _ b.2;
        count = leb-true _ _ a.2;
        halted = leb-true _ _ b.3;
        waking = own-none p v _ h.1;
        unnamed = d.0;
        named = d.1;
        unwoken = waking-facts g.1;
      }

  pub facts-node : NodeOk (own_of p v) (limit_of p) n → node_fits p v n ≡ true
  unfolding node_fits
  facts-node h =
      pair _ _
      (all-four _ _ _ _
      (pair _ _
      (all-four _ _ _ _
      (all-four _ _ _ _ (le-leb _ _ h.status) (none-link p v _ h.identity) (none-link p v _ h.weight) (none-own p v _ h.best))
      (none-own p v _ h.test) (none-own p v _ h.branch) (le-leb _ _ h.halted))
      (none-own p v _ h.waking))
      (le-leb _ _ h.level) (le-leb _ _ h.count) (facts-identity h.unnamed h.named))
      (facts-waking h.unwoken)

-- ---- a word

module _ (p : Plan) (w : ℕ) (e : word_fits p w ≡ true) where
  parts : (laid_out w ≡ true) × (link_or_none p (carried_in w) ≡ true) × (ltb (link_in w) (2 * links_of p) ≡ true) × (leb (level_at (header_in w)) (limit_of p) ≡ true)
  unfolding word_fits
  parts = four (laid_out w) (link_or_none p (carried_in w)) (ltb (link_in w) (2 * links_of p)) (leb (level_at (header_in w)) (limit_of p)) e

  pub word-shaped : shaped w ≡ true
  word-shaped = (two (shaped w) (listed (header_in w) (carried_in w)) parts.0).0

  pub word-link : link_in w < 2 * links_of p
  word-link = ltb-true _ _ parts.2

  pub word-nonzero : w ≢ 0
  word-nonzero z = absurd (omega (arith, eqb-true (w / 2 ^ 41) 1 word-shaped))

  said : Means (header_in w) (carried_in w) (msg_in w)
  said = means (header_in w) (carried_in w) (two (shaped w) (listed (header_in w) (carried_in w)) parts.0).1

  -- its level and its carried number are the message's
  level-is : (parts_of (msg_in w)).level ≤ limit_of p
  level-is =
      let b = in-bits (msg_in w) said.fits in
      let q = (parts-of-byte (parts_of (msg_in w)).kind (parts_of (msg_in w)).level (parts_of (msg_in w)).find b.kind b.level b.find).1 in
      omega (arith, leb-true (level_at (header_in w)) (limit_of p) parts.3, q, ap level_at said.header)

  carried-is : (v : ℕ) → LinkOrNone (own_of p v) (carried_of (msg_in w))
  carried-is v = rw said.carried (link-none p v (carried_in w) parts.1)

-- a listed message with its level and its carried number within the plan
msg-ok : (o : Own) (limit : ℕ) (m : Msg) → Listed m → (parts_of m).level ≤ limit → LinkOrNone o (carried_of m) → MsgOk o limit m
unfolding parts_of
msg-ok o limit (connect l) h a b = a
msg-ok o limit (initiate l i f) h a b = (h.0, a, ⊎_elim (λ e. absurd (omega (arith, h.2))) (λ x. x) b, h.3)
msg-ok o limit (test l i) h a b = (h.0, a, ⊎_elim (λ e. absurd (omega (arith, h.2))) (λ x. x) b)
msg-ok o limit accept h a b = tt
msg-ok o limit reject h a b = tt
msg-ok o limit (report w) h a b = b
msg-ok o limit change h a b = tt

pub word-msg : (p : Plan) (v w : ℕ) → word_fits p w ≡ true → MsgOk (own_of p v) (limit_of p) (msg_in w)
word-msg p v w e = msg-ok (own_of p v) (limit_of p) (msg_in w) (said p w e).fits (level-is p w e) (carried-is p w e v)

-- handed over it fits still
pub hand-fits : (p : Plan) (w : ℕ) → word_fits p w ≡ true → word_fits p (hand_over w) ≡ true
unfolding word_fits
hand-fits p w e =
    let h = parts p w e in
    let u = over w (eqb-true (w / 2 ^ 41) 1 (word-shaped p w e)) in
    all-four _ _ _ _ (over-laid-out w h.0) (ap (link_or_none p) u.carried ∙ h.1) (ap (λ d. ltb d (2 * links_of p)) u.link ∙ h.2)
    (ap (λ x. leb (level_at x) (limit_of p)) u.header ∙ h.3)

-- ---- a send

module _ (o : Own) (limit : ℕ) where
  level-within : (m : Msg) → MsgOk o limit m → (parts_of m).level ≤ limit
  unfolding parts_of
  level-within (connect l) h = h
  level-within (initiate l i f) h = h.1
  level-within (test l i) h = h.1
  level-within accept h = omega arith
  level-within reject h = omega arith
  level-within (report w) h = omega arith
  level-within change h = omega arith

  carried-within : (m : Msg) → MsgOk o limit m → LinkOrNone o (carried_of m)
  unfolding parts_of
  carried-within (connect l) h = inl refl
  carried-within (initiate l i f) h = inr h.2
  carried-within (test l i) h = inr h.2
  carried-within accept h = inl refl
  carried-within reject h = inl refl
  carried-within (report w) h = h
  carried-within change h = inl refl

  pub msg-listed : limit < 8 → o.edges ≤ max_links → (m : Msg) → MsgOk o limit m → Listed m
  msg-listed a b (connect l) h = omega arith
  msg-listed a b (initiate l i f) h = (h.0, omega (arith, h.1), omega (arith, h.2), h.3)
  msg-listed a b (test l i) h = (h.0, omega (arith, h.1), omega (arith, h.2))
  msg-listed a b accept h = tt
  msg-listed a b reject h = tt
  msg-listed a b (report w) h = ⊎_elim (λ e. inr e) (λ x. inl (omega arith)) h
  msg-listed a b change h = tt

module _ (p : Plan) (a : Accepted p) (v : ℕ) (x : Send) (h : SendOk (own_of p v) (limit_of p) x) where
  pub send-packs : Packs x
  send-packs = record {
    listed = msg-listed (own_of p v) (limit_of p) (level-small p a) a.links_ok x.msg h.msg;
    small = omega (arith, own-link-below p v x.edge h.own, a.links_ok);
  }

  pub send-fits : word_fits p (word_of p v x) ≡ true
  unfolding word_fits
  send-fits =
      let m = x.msg in
      let d = end_of p v x.edge in
      let b = in-bits m send-packs.listed in
      let u = word-parts p v x send-packs in
      let q = (parts-of-byte (parts_of m).kind (parts_of m).level (parts_of m).find b.kind b.level b.find).1 in
      all-four _ _ _ _ (packs-laid-out m d false send-packs.listed (over-16 p v x send-packs))
      (ap (link_or_none p) u.carried ∙ none-link p v (carried_of m) (carried-within (own_of p v) (limit_of p) m h.msg))
      (ap (λ y. ltb y (2 * links_of p)) u.link ∙ lt-ltb d (2 * links_of p) (over_below p v x.edge h.own))
      (ap (λ y. leb (level_at y) (limit_of p)) u.header ∙ ap (λ y. leb y (limit_of p)) q ∙ le-leb (parts_of m).level (limit_of p) (level-within (own_of p v) (limit_of p) m h.msg))

pub sends-fit : (p : Plan) (a : Accepted p) (v : ℕ) {l : List Send} → All (SendOk (own_of p v) (limit_of p)) l → All (λ w. word_fits p w ≡ true) (posted p v l)
sends-fit p a v nil = nil
sends-fit p a v (con {x} h t) = con (send-fits p a v x h) (sends-fit p a v t)

pub sends-pack : (p : Plan) (a : Accepted p) (v : ℕ) {l : List Send} → All (SendOk (own_of p v) (limit_of p)) l → All Packs l
sends-pack p a v h = All-map (λ x i. send-packs p a v x i) h

-- ---- the state

module _ (p : Plan) (s : State) where
  pub fits-facts : fits p s ≡ true → FieldFits p s
  unfolding fits
  fits-facts e =
      let a = two (all_of (word_fits p) s.words && every (modules_of p) (λ v. node_fits p v (node_at s v)) && every (2 * links_of p) (λ d. leb (get_or s.marks d 0) REJECTED) && leb (length s.words) s.sent) (leb s.sent (ceiling_of p)) e in
      let b = four (all_of (word_fits p) s.words) (every (modules_of p) (λ v. node_fits p v (node_at s v))) (every (2 * links_of p) (λ d. leb (get_or s.marks d 0) REJECTED)) (leb (length s.words) s.sent) a.0 in
      record {
        words = all-of (word_fits p) s.words b.0;
        nodes = λ v l. node-facts p v (node_at s v) (every-all (modules_of p) (λ u. node_fits p u (node_at s u)) b.1 v l);
        marks = λ d l. leb-true _ _ (every-all (2 * links_of p) (λ d. leb (get_or s.marks d 0) REJECTED) b.2 d l);
        waiting = leb-true _ _ b.3;
        ceiling = leb-true _ _ a.1;
      }

  pub facts-fits : FieldFits p s → fits p s ≡ true
  unfolding fits
  facts-fits h =
      pair _ _
      (all-four _ _ _ _ (of-all (word_fits p) h.words) (all-every (modules_of p) (λ u. node_fits p u (node_at s u)) (λ v l. facts-node p v (node_at s v) (h.nodes v l)))
      (all-every (2 * links_of p) (λ d. leb (get_or s.marks d 0) REJECTED) (λ d l. le-leb _ _ (h.marks d l))) (le-leb _ _ h.waiting))
      (le-leb _ _ h.ceiling)

-- Good states in which every waiting message is blocked have none (`stuck-none`); where nothing waits the protocol is at rest (`at-rest`).
use Rattle.std.specs.Prelude.{ℕ, ◌≡◌, refl, ◌≢◌, Bool, true, not, ◌&&◌, List, [], ◌∷◌, ◌++◌}
use Rattle.std.proofs.Common.{sym, ap, ap₂, subst, ◌∙◌}
use Rattle.std.proofs.Math.Logic.{⊎_elim}
use Rattle.base.proofs.laws.Cond.{bool_cases, eqb_same}
use Rattle.base.specs.Pool.{All, nil, con}
use Rattle.base.specs.Keep.{keep}
use Rattle.base.proofs.laws.Keep.{keep-yes, keep-no, keep-nil}
use Rattle.format_message.specs.Msg.{Msg}
use Rattle.format_word.specs.Word.{link_in, handed_in}
use Rattle.plan.proofs.laws.Accepted.{Accepted}
use Rattle.node.specs.Work.{Work}
use Rattle.node.specs.Rules.{respond}
use Rattle.field.specs.Edges.{own_of, link_of, from, dest, limit_of, end_of}
use Rattle.field.specs.State.{State, node_at, mark_at, msg_in}
use Rattle.field.specs.Step.{in_air}
use Rattle.field.specs.Valid.{word_fits}
use Rattle.field_laws.proofs.Chan.{is_up, msgs, chan, up-parts, air-parts}
use Rattle.field_laws.proofs.Places.{link-over, over-from}
use Rattle.field_laws.proofs.Fits.{word-link}
use Rattle.field_laws.proofs.Keeps.{Sound}
use Rattle.field_roundlaws.proofs.Progress.{BlockedWord}
use Rattle.graph.proofs.laws.Ways.{flip}
use Rattle.plan.specs.Links.{Plan}
use Rattle.protocol.specs.Network.{Edge, end_lt}
use Rattle.protocol.specs.Chan.{In, first, in-nil, in-cons, in_app, in_right}
use Rattle.protocol.specs.Step.{Blocked}
use Rattle.protocol_stuck.proofs.Parts.{AllFinished, stuck-finished, rest-finished}
use Rattle.protocol_bridge.proofs.Real.{Real, own_p}
use Rattle.protocol_bridge.proofs.Fin.{st-is}
use Rattle.demand_view.proofs.Net.{net, net-ends-own, ends_of, dest-is}
use Rattle.demand_view.proofs.Chans.{chans-own}
use Rattle.demand_view.proofs.Start.{chans-none}
use Rattle.demand.proofs.Good.{Good, node-shown, rule-is}
use Rattle.demand.proofs.Back.{back-blocked}

-- ---- words and channels

-- a message of a channel stands in a word
record Word (P : ℕ → Type 0) (d : ℕ) (m : Msg) : Type 0 where
  pub word : ℕ
  pub holds : P word
  pub link : link_in word ≡ d
  pub msg : msg_in word ≡ m

module _ {P : ℕ → Type 0} where
  -- among those that pass a test which says their link
  kept_word : (q : ℕ → Bool) (d : ℕ) → ((x : ℕ) → q x ≡ true → link_in x ≡ d) → {l : List ℕ} {m : Msg} → All P l → In m (msgs (keep q l)) → Word P d m
  kept_word q d f {m = m} nil n = absurd (in-nil (subst (λ l. In m (msgs l)) (keep-nil q) n))
  kept_word q d f {m = m} (con {x} {xs} h t) n = bool_cases (q x)
      (λ b. ⊎_elim (λ e. record { word = x; holds = h; link = f x b; msg = sym e }) (λ r. kept_word q d f t r) (in-cons (subst (λ l. In m (msgs l)) (keep-yes q x xs b) n)))
      (λ b. kept_word q d f t (subst (λ l. In m (msgs l)) (keep-no q x xs b) n))

  word_of : (d : ℕ) {l : List ℕ} {m : Msg} → All P l → In m (chan d l) → Word P d m
  unfolding chan
  word_of d {l} {m} h n = ⊎_elim
      (λ r. kept_word (is_up d) d (λ x b. (up-parts d x b).1) h r)
      (λ r. kept_word (in_air d) d (λ x b. (air-parts d x b).1) h r)
      (in_app (msgs (keep (is_up d) l)) (msgs (keep (in_air d) l)) n)

-- and a word in its channel
pub first-in : (x : ℕ) (l : List ℕ) → In (msg_in x) (chan (link_in x) (x ∷ l))
unfolding chan
first-in x l = bool_cases (handed_in x)
    (λ b. subst (λ y. In (msg_in x) (msgs y ++ msgs (keep (in_air (link_in x)) (x ∷ l)))) (sym (keep-yes (is_up (link_in x)) x l (ap₂ ◌&&◌ b (eqb_same (link_in x))))) first)
    (λ b. in_right (msgs (keep (is_up (link_in x)) (x ∷ l)))
    (subst (λ y. In (msg_in x) (msgs y)) (sym (keep-yes (in_air (link_in x)) x l (ap₂ ◌&&◌ (ap not b) (eqb_same (link_in x))))) first))

module _ (p : Plan) (a : Accepted p) (s : State) (g : Good p a s) where
  -- the protocol's channel from u over its own edge k
  pub chan-is : {k u v : ℕ} → Edge (net p a) k u v → g.at.ch u k ≡ chan (end_of p u k) s.words
  chan-is {k} {u} e = ap (λ (r : Real). r.ch u k) (g.is) ∙ chans-own p s.words u k (net-ends-own p a e)

  -- the protocol's channels are empty: no word
  none-waits : All (λ x. word_fits p x ≡ true) s.words → ((k u v : ℕ) → Edge (net p a) k u v → g.at.ch u k ≡ []) → s.words ≡ []
  none-waits i f = go s.words i (λ k u v e. sym (chan-is e) ∙ f k u v e)
    where
      go : (l : List ℕ) → All (λ x. word_fits p x ≡ true) l → ((k u v : ℕ) → Edge (net p a) k u v → chan (end_of p u k) l ≡ []) → l ≡ []
      go [] h n = refl
      go (x ∷ l) (con h t) n =
          let d = link_in x in
          let b = word-link p x h in
          let e : chan d (x ∷ l) ≡ [] = ap (λ y. chan y (x ∷ l)) (sym (over-from p a d b)) ∙ n (link_of d) (from p d) (dest p d) (ends_of p a d b) in
          absurd (in-nil (subst (In (msg_in x)) e (first-in x l)))

  -- a word that its node would put back is a message that is blocked
  blocked : {k u v : ℕ} (e : Edge (net p a) k u v) (x : ℕ) → link_in x ≡ end_of p u k → BlockedWord p s x → (g.at.st v ≢ 0) × Blocked (g.at) v k (msg_in x)
  blocked {k} {u} {v} e x q b =
      let l = end_lt (net p a) (flip e) in
      let dv : dest p (link_in x) ≡ v = ap (dest p) q ∙ dest-is p a e in
      let kx : link_of (link_in x) ≡ k = ap link_of q ∙ link-over p u k in
      let st : g.at.st v ≡ (node_at s v).status = st-is (node-shown p a s g v l) in
      let awake : g.at.st v ≢ 0 = λ z. subst (λ y. (node_at s y).status ≢ 0) dv b.awake (sym st ∙ z) in (
        awake,
        back-blocked (own_p (net p a) v) (limit_of p) (g.at) (node-shown p a s g v l) k awake (msg_in x)
            (ap (λ (w : Work). w.answer) (rule-is p a s g v (λ o m. respond o (limit_of p) (msg_in x) k (node_at s v) m)) ∙ ap₂ (λ y j. (respond (own_of p y) (limit_of p) (msg_in x) j (node_at s y) (mark_at p s y)).answer) (sym dv) (sym kx) ∙ b.back),
      )

  -- NOTHING WAITS where every waiting message is blocked
  pub stuck-none : Sound p s → All (BlockedWord p s) s.words → s.words ≡ []
  stuck-none i h = none-waits i.fits.words (stuck-finished (g.reach.inv) (record { idle = g.idle; back = back })).silent
    where
      back : (k u v : ℕ) (m : Msg) → Edge (net p a) k u v → In m (g.at.ch u k) → (g.at.st v ≢ 0) × Blocked (g.at) v k m
      back k u v m e n =
          let x = word_of (end_of p u k) h (subst (In m) (chan-is e) n) in
          subst (λ y. (g.at.st v ≢ 0) × Blocked (g.at) v k y) x.msg (blocked e x.word x.link x.holds)

  -- AT REST the protocol is finished
  pub at-rest : s.words ≡ [] → AllFinished (net p a) (g.at)
  at-rest z = rest-finished (g.reach.inv) (g.idle) (λ k u v e. chan-is e ∙ ap (chan (end_of p u k)) z ∙ sym (chans-own p [] u k (net-ends-own p a e)) ∙ chans-none p a u k)

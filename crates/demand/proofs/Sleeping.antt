-- A part with nobody awake, in every good state: its nodes are as at setup (`node-asleep`), and its marks (`mark-asleep`); its channels are empty (`no-message`), so none
-- of its words waits (`none-waits`).
use Rattle.std.specs.Prelude.{ℕ, ◌<◌, ◌≡◌, refl, Bool, true, List, [], ◌∷◌, length, replicate}
use Rattle.std.proofs.Common.{arith, sym, ap, subst, ◌∙◌, ⊎_elim}
use Rattle.base.proofs.laws.Cond.{by-eq, bool_cases}
use Rattle.base.specs.Keep.{keep}
use Rattle.base.proofs.laws.Keep.{keep-yes, keep-no}
use Rattle.base.specs.Pool.{All, nil, con}
use Rattle.format_message.specs.Msg.{Msg, none}
use Rattle.format_word.specs.Word.{link_in}
use Rattle.graph.specs.Graph.{up, down, stop, go}
use Rattle.graph.specs.Parts.{SamePart}
use Rattle.graph.proofs.laws.Ways.{way-reverse}
use Rattle.plan.proofs.laws.Accepted.{Accepted}
use Rattle.plan.specs.Links.{Plan, modules_of, graph_of}
use Rattle.node.specs.declared.Node.{Node}
use Rattle.node.specs.Work.{setup}
use Rattle.field.specs.Edges.{link_of, from, dest, end_of}
use Rattle.field.specs.State.{State, node_at, mark_at, msg_in}
use Rattle.field.specs.Step.{in_air}
use Rattle.field.specs.Valid.{word_fits}
use Rattle.field.specs.Held.{state_of, fresh}
use Rattle.field_calls.specs.Demand.{InPart}
use Rattle.field_calls.specs.Trail.{Awake}
use Rattle.field_laws.proofs.Chan.{is_up, msgs, chan}
use Rattle.field_laws.proofs.Fits.{word-link}
use Rattle.field_laws.proofs.Keeps.{Sound}
use Rattle.field_laws.proofs.Places.{over-from}
use Rattle.protocol.specs.Network.{Edge}
use Rattle.protocol.specs.Chan.{In, next, in-nil, in_app, in_left, in_right}
use Rattle.protocol_stuck.proofs.Parts.{PartAsleep, part-asleep}
use Rattle.protocol_bridge.proofs.Fin.{st-is, lev-is, id-is, bw-is, be-is, te-is, ib-is, fc-is, halt-is}
use Rattle.protocol_bridge.proofs.Real.{Real}
use Rattle.demand_view.proofs.Net.{net, ends_of}
use Rattle.demand_view.proofs.Start.{view-start}
use Rattle.demand.proofs.Good.{Good, node-shown, good-mark}
use Rattle.demand.proofs.Rest.{chan-is, first-in}

-- ---- words and channels

-- a message of fewer words' channel is in that of all of them
kept_more : (q : ℕ → Bool) (x : ℕ) (l : List ℕ) {m : Msg} → In m (msgs (keep q l)) → In m (msgs (keep q (x ∷ l)))
kept_more q x l {m} n = bool_cases (q x)
    (λ b. subst (λ y. In m (msgs y)) (sym (keep-yes q x l b)) (next n))
    (λ b. subst (λ y. In m (msgs y)) (sym (keep-no q x l b)) n)

chan-more : (d x : ℕ) (l : List ℕ) {m : Msg} → In m (chan d l) → In m (chan d (x ∷ l))
unfolding chan
chan-more d x l n = ⊎_elim
    (λ r. in_left (msgs (keep (in_air d) (x ∷ l))) (kept_more (is_up d) x l r))
    (λ r. in_right (msgs (keep (is_up d) (x ∷ l))) (kept_more (in_air d) x l r))
    (in_app (msgs (keep (is_up d) l)) (msgs (keep (in_air d) l)) n)

-- ---- values

sleeper : (n : Node) → n.status ≡ 0 → n.level ≡ 0 → n.identity ≡ none → n.weight ≡ none → n.best ≡ none → n.test ≡ none → n.branch ≡ none → n.count ≡ 0 → n.halted ≡ 0
    → n.waking ≡ none → n ≡ setup
sleeper n a b c d e f g h i j = rw (a, b, c, d, e, f, g, h, i, j) refl

module _ (p : Plan) (a : Accepted p) (s : State) (g : Good p a s) (i : Sound p s) (lent : List ℕ) (w : ℕ) (none-awake : (v : ℕ) → InPart p w v → ¬ Awake p s v) where
  abbrev begun : State
  begun = state_of (record { field = fresh p; words = replicate (length lent) 0 })

  -- who is joined to a module is a module
  inside : {u v : ℕ} → SamePart (graph_of p) u v → u < modules_of p → v < modules_of p
  inside stop m = m
  inside (go e (up b q r) t y) m = inside y (omega (arith, (a.each e b).inside))
  inside (go e (down b q r) t y) m = inside y (omega (arith, (a.each e b).ordered, (a.each e b).inside))

  sleeps : w < modules_of p → PartAsleep (net p a) (g.at) w
  sleeps l = part-asleep (g.reach.inv) w (λ v y. by-eq (g.at.st v) 0 (λ e. e)
      (λ n. let m = inside y l in absurd (none-awake v (m, y) (record { within = m; awake = λ e. n (st-is (node-shown p a s g v m) ∙ e) }))))

  -- the part's modules are modules, and so is w
  is-module : {v : ℕ} → InPart p w v → w < modules_of p
  is-module y = inside (way-reverse y.1) y.0

  pub node-asleep : (v : ℕ) → InPart p w v → node_at s v ≡ setup
  node-asleep v y =
      let t = (sleeps (is-module y)).nodes v y.1 in
      let n = node-shown p a s g v y.0 in
      let z : (node_at s v).status ≡ 0 = sym (st-is n) ∙ t.status in
      sleeper (node_at s v) z (sym (lev-is n) ∙ t.level) (sym (id-is n) ∙ t.identity) (sym (bw-is n) ∙ t.weight) (sym (be-is n) ∙ t.best) (sym (te-is n) ∙ t.test)
      (sym (ib-is n) ∙ t.branch) (sym (fc-is n) ∙ t.count) (sym (halt-is n) ∙ t.halted) ((i.fits.nodes v y.0).unwoken z)

  pub mark-asleep : (v k : ℕ) → InPart p w v → mark_at p s v k ≡ mark_at p begun v k
  mark-asleep v k y =
      ap (λ f. f k) (sym (good-mark p a s g v)) ∙ ((sleeps (is-module y)).nodes v y.1).markings k ∙ sym (ap (λ (r : Real). r.mark v k) (view-start p a lent))

  -- no message of the part is on a channel, so no word of it waits
  pub no-message : (k u v : ℕ) → Edge (net p a) k u v → InPart p w u → (m : Msg) → ¬ In m (chan (end_of p u k) s.words)
  no-message k u v e y m n = in-nil (subst (In m) (sym (chan-is p a s g e) ∙ (sleeps (is-module y)).channels k u v e y.1) n)

  pub none-waits : (l : List ℕ) → All (λ x. word_fits p x ≡ true) l → ((k u v : ℕ) → Edge (net p a) k u v → InPart p w u → (m : Msg) → ¬ In m (chan (end_of p u k) l))
      → All (λ x. ¬ InPart p w (from p (link_in x))) l
  none-waits [] h f = nil
  none-waits (x ∷ l) (con h t) f =
      let d = link_in x in
      let b = word-link p x h in
      con {x = x} (λ y. f (link_of d) (from p d) (dest p d) (ends_of p a d b) y (msg_in x) (subst (λ z. In (msg_in x) (chan z (x ∷ l))) (sym (over-from p a d b)) (first-in x l)))
      (none-waits l t (λ k u v e y m n. f k u v e y m (chan-more (end_of p u k) x l n)))

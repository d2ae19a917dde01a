-- The channels of the view: what sends (`chans-post`), a hand-over (`chans-hand`), a service (`chans-taken`) and a put-back (`chans-back`) do to them.
use Rattle.std.specs.Prelude.{ℕ, ◌*◌, ◌<◌, ◌≡◌, ◌≢◌, ◌⊎◌, true, false}
use Rattle.std.proofs.Math.Path.{refl, sym, ap, ap₂, fun_ext}
use Rattle.std.proofs.Common.{subst, ◌∙◌, inl, inr, ⊎_elim, true≢false}
use Rattle.std.proofs.Math.Bool.{cond}
use mathlib.Core.List.{List, [], ◌∷◌, ◌++◌, append_assoc, append-nil}
use Rattle.base.specs.Cond.{upd2}
use Rattle.base.proofs.laws.Cond.{bool_cases, upd2-elim}
use Rattle.base.specs.Pool.{All, nil, con}
use Rattle.base.proofs.laws.Keep.{FirstThat, first_passes}
use Rattle.format_message.specs.Msg.{Msg}
use Rattle.format_word.specs.Word.{link_in, shaped, hand_over}
use Rattle.plan.proofs.laws.Accepted.{Accepted}
use Rattle.plan.specs.Links.{Plan, links_of}
use Rattle.node.specs.Work.{Send}
use Rattle.field.specs.Edges.{is_own, link_of, from, end_of}
use Rattle.field.specs.State.{msg_in, posted}
use Rattle.field.specs.Step.{in_air, in_queue}
use Rattle.field_laws.proofs.Chan.{chan, ups, downs, hand-chan, queue-parts, take_own, take-other, back-own, back-other}
use Rattle.field_laws.proofs.Sends.{Packs, onto, onto-nil, onto-here, onto-else, post-chan, post-away}
use Rattle.field_laws.proofs.Places.{link-over, from-over, from-own, over-from, ends-apart}
use Rattle.protocol_bridge.proofs.Real.{post}
use Rattle.protocol_bridge.proofs.Place.{post-pop}
use Rattle.demand_view.proofs.View.{chans}

module _ (p : Plan) where
  pub chans-own : (words : List ℕ) (v k : ℕ) → is_own p v k ≡ true → chans p words v k ≡ chan (end_of p v k) words
  unfolding chans
  chans-own words v k o = rw o

  pub chans-not : (words : List ℕ) (v k : ℕ) → is_own p v k ≡ false → chans p words v k ≡ []
  unfolding chans
  chans-not words v k o = rw o

  -- the same channels where the own ones are the same
  pub chans-same : (s t : List ℕ) → ((d : ℕ) → chan d s ≡ chan d t) → chans p s ≡ chans p t
  unfolding chans
  chans-same s t h = fun_ext (λ v. fun_ext (λ k. ap (λ c. cond (is_own p v k) c []) (h (end_of p v k))))

  -- ---- sends

  -- different own links are different directed links
  over-other : (u v j k : ℕ) → is_own p u j ≡ true → is_own p v k ≡ true → (u ≢ v) ⊎ (j ≢ k) → end_of p u j ≢ end_of p v k
  over-other u v j k a b (inl d) e = d (sym (from-over p u j a) ∙ ap (from p) e ∙ from-over p v k b)
  over-other u v j k a b (inr d) e = d (sym (link-over p u j) ∙ ap link_of e ∙ link-over p v k)

  module _ (v : ℕ) where
    -- a table c of channels, after v's sends: at another's link, and at v's own
    post-mine : (c : ℕ → ℕ → List Msg) {l : List Send} → All (λ x. is_own p v x.edge ≡ true) l → (u k : ℕ) → is_own p u k ≡ true
        → post c v l u k ≡ c u k ++ onto p v (end_of p u k) l
    unfolding post
    post-mine c nil u k o = sym (ap (λ x. c u k ++ x) (onto-nil p v (end_of p u k)) ∙ append-nil (c u k))
    post-mine c (con {x} {xs} h t) u k o =
        let j = x.edge in
        let c₁ = upd2 c v j (c v j ++ (x.msg ∷ [])) in
        post-mine c₁ t u k o
        ∙ upd2-elim (λ y. y ++ onto p v (end_of p u k) xs ≡ c u k ++ onto p v (end_of p u k) (x ∷ xs)) c v j (c v j ++ (x.msg ∷ [])) u k
        (λ a b. ap₂ (λ y z. (c y z ++ (x.msg ∷ [])) ++ onto p v (end_of p u k) xs) a b ∙ append_assoc (c u k) (x.msg ∷ []) (onto p v (end_of p u k) xs)
        ∙ ap (λ y. c u k ++ y) (sym (subst (λ d. onto p v d (x ∷ xs) ≡ x.msg ∷ onto p v d xs) (ap₂ (end_of p) a b) (onto-here p v j x.msg xs))))
        (λ n. ap (λ y. c u k ++ y) (sym (onto-else p v (end_of p u k) x xs (over-other v u j k h o n))))

    post-none : (c : ℕ → ℕ → List Msg) {l : List Send} → All (λ x. is_own p v x.edge ≡ true) l → (u k : ℕ) → is_own p u k ≡ false → post c v l u k ≡ c u k
    unfolding post
    post-none c nil u k o = refl
    post-none c (con {x} {xs} h t) u k o =
        let j = x.edge in
        post-none (upd2 c v j (c v j ++ (x.msg ∷ []))) t u k o
        ∙ upd2-elim (λ y. y ≡ c u k) c v j (c v j ++ (x.msg ∷ [])) u k
        (λ a b. absurd (true≢false (sym h ∙ ap₂ (is_own p) a b ∙ o))) (λ n. refl)

    -- LAW 1: each send goes to the end of its channel
    pub chans-post : (words : List ℕ) {l : List Send} → All Packs l → All (λ x. is_own p v x.edge ≡ true) l → chans p (words ++ posted p v l) ≡ post (chans p words) v l
    chans-post words {l} h o = fun_ext (λ u. fun_ext (λ k. bool_cases (is_own p u k)
        (λ b. chans-own (words ++ posted p v l) u k b ∙ post-chan p v (end_of p u k) words h ∙ ap (λ c. c ++ onto p v (end_of p u k) l) (sym (chans-own words u k b))
        ∙ sym (post-mine (chans p words) o u k b))
        (λ b. chans-not (words ++ posted p v l) u k b ∙ sym (post-none (chans p words) o u k b ∙ chans-not words u k b))))

-- LAW 2: a hand-over leaves the channels
pub chans-hand : (p : Plan) (d x : ℕ) (s r : List ℕ) → FirstThat (in_air d) s x r → shaped x ≡ true → chans p (r ++ (hand_over x ∷ [])) ≡ chans p s
chans-hand p d x s r o h = chans-same p (r ++ (hand_over x ∷ [])) s (hand-chan d x s r o h)

-- ---- a service

overwrite : {A : Type 0} (f : ℕ → ℕ → A) (u k : ℕ) (a b : A) → upd2 (upd2 f u k a) u k b ≡ upd2 f u k b
overwrite f u k a b = fun_ext (λ w. fun_ext (λ j. upd2-elim (λ x. x ≡ upd2 f u k b w j) (upd2 f u k a) u k b w j
    (λ e q. sym (ap₂ (upd2 f u k b) (sym e) (sym q) ∙ upd2-elim (λ x. x ≡ b) f u k b u k (λ e q. refl) (λ n. ⊎_elim (λ m. absurd (m refl)) (λ m. absurd (m refl)) n)))
    (λ n. upd2-elim (λ x. x ≡ upd2 f u k b w j) f u k a w j (λ e q. ⊎_elim (λ m. absurd (m e)) (λ m. absurd (m q)) n)
    (λ m. sym (upd2-elim (λ x. x ≡ f w j) f u k b w j (λ e q. ⊎_elim (λ m. absurd (m e)) (λ m. absurd (m q)) n) (λ m. refl))))))

-- of the channel of word x, where r wait and v sends: the messages handed over, and those not
abbrev pub handed_part : Plan → ℕ → ℕ → List ℕ → List Send → List Msg
handed_part p v x r sends = ups (link_in x) (r ++ posted p v sends)

abbrev pub unhanded_part : Plan → ℕ → ℕ → List ℕ → List Send → List Msg
unhanded_part p v x r sends = downs (link_in x) (r ++ posted p v sends)

module _ (p : Plan) (a : Accepted p) (v x : ℕ) (s r : List ℕ) (o : FirstThat (in_queue p v) s x r) (l : link_in x < 2 * links_of p) where
  abbrev d : ℕ
  d = link_in x

  abbrev u : ℕ
  u = from p d

  abbrev k : ℕ
  k = link_of d

  u-own : is_own p u k ≡ true
  u-own = from-own p a d l

  at-d : (words : List ℕ) → chans p words u k ≡ chan d words
  at-d words = chans-own p words u k u-own ∙ ap (λ y. chan y words) (over-from p a d l)

  -- it comes from another module
  pub sender : u ≢ v
  sender q = ends-apart p a d l (q ∙ sym (queue-parts p v x (first_passes o)).1)

  -- the words t have the channels of s, but for c in the channel of x
  changed : (s t : List ℕ) (c : List Msg) → chan d t ≡ c → ((e : ℕ) → d ≢ e → chan e t ≡ chan e s) → chans p t ≡ upd2 (chans p s) u k c
  changed s t c h n = fun_ext (λ w. fun_ext (λ j. upd2-elim (λ y. chans p t w j ≡ y) (chans p s) u k c w j
      (λ e q. ap₂ (chans p t) (sym e) (sym q) ∙ at-d t ∙ h)
      (λ m. bool_cases (is_own p w j)
      (λ b. chans-own p t w j b ∙ n (end_of p w j) (λ q. over-other p u w k j u-own b m (over-from p a d l ∙ q)) ∙ sym (chans-own p s w j b))
      (λ b. chans-not p t w j b ∙ sym (chans-not p s w j b)))))

  -- LAW 3: the word served is the head of its channel, and the other channels stay
  pub chans-head : chans p s u k ≡ msg_in x ∷ chans p r u k
  chans-head = at-d s ∙ take_own p v x s r o ∙ ap (λ c. msg_in x ∷ c) (sym (at-d r))

  pub chans-take : chans p r ≡ upd2 (chans p s) u k (chans p r u k)
  chans-take = changed s r (chans p r u k) (sym (at-d r)) (λ e n. sym (take-other p v x s r o e n))

  -- LAW 4: after sends of v, put back at the end, it stands behind some messages of its channel and before the others
  module _ (sends : List Send) (h : All Packs sends) (q : All (λ x. is_own p v x.edge ≡ true) sends) where
    abbrev t : List ℕ
    t = r ++ posted p v sends

    pub chans-split : chans p r u k ≡ handed_part p v x r sends ++ unhanded_part p v x r sends
    unfolding chan
    chans-split = at-d r ∙ sym (post-away p v d r h q sender)

    pub chans-back : chans p (t ++ (x ∷ [])) ≡ post (upd2 (chans p s) u k (handed_part p v x r sends ++ (msg_in x ∷ unhanded_part p v x r sends))) v sends
    chans-back =
        let c = handed_part p v x r sends ++ (msg_in x ∷ unhanded_part p v x r sends) in
        changed t (t ++ (x ∷ [])) c (back-own p v x s r o t) (λ e n. back-other p v x s r o e t n)
        ∙ ap (λ f. upd2 f u k c) (chans-post p v r h q)
        ∙ post-pop (chans p r) u v k c sends sender
        ∙ ap (λ f. post f v sends) (ap (λ f. upd2 f u k c) chans-take ∙ overwrite (chans p s) u k (chans p r u k) c)

    pub chans-taken : chans p t ≡ post (upd2 (chans p s) u k (chans p r u k)) v sends
    chans-taken = chans-post p v r h q ∙ ap (λ f. post f v sends) chans-take

-- How placed responses change: one law for each assignment of the rules (`place-`). A small step is made of the same assignments.
use Rattle.std.specs.Prelude.{ℕ, ◌≡◌, ◌≢◌, List, [], ◌∷◌, ◌++◌}
use Rattle.std.proofs.Math.Path.{refl, fun_ext}
use Rattle.std.proofs.Common.{sym, ap, ◌∙◌}
use Rattle.base.specs.Cond.{upd, upd2}
use Rattle.base.proofs.laws.Cond.{upd-elim, upd_same, upd_other, upd2-elim}
use Rattle.format_message.specs.Msg.{Msg}
use Rattle.node.specs.declared.Node.{Node}
use Rattle.node.specs.Work.{Work, Send, with_node, set_mark, set_status, set_best, set_test, set_count, set_halted, send}
use Rattle.node.specs.Rules.{copied, informed, woken}
use Rattle.protocol_bridge.proofs.Real.{Real, post, place_in}

-- ---- assignments to v's values, in the tables

abbrev pub to_status : ℕ → ℕ → Real → Real
to_status v a r = record { st = upd r.st v a; lev = r.lev; id = r.id; bw = r.bw; be = r.be; te = r.te; ib = r.ib; fc = r.fc; halt = r.halt; mark = r.mark; ch = r.ch }

abbrev pub to_best : ℕ → ℕ → ℕ → Real → Real
to_best v e x r = record { st = r.st; lev = r.lev; id = r.id; bw = upd r.bw v x; be = upd r.be v e; te = r.te; ib = r.ib; fc = r.fc; halt = r.halt; mark = r.mark; ch = r.ch }

abbrev pub to_test : ℕ → ℕ → Real → Real
to_test v a r = record { st = r.st; lev = r.lev; id = r.id; bw = r.bw; be = r.be; te = upd r.te v a; ib = r.ib; fc = r.fc; halt = r.halt; mark = r.mark; ch = r.ch }

abbrev pub to_count : ℕ → ℕ → Real → Real
to_count v a r = record { st = r.st; lev = r.lev; id = r.id; bw = r.bw; be = r.be; te = r.te; ib = r.ib; fc = upd r.fc v a; halt = r.halt; mark = r.mark; ch = r.ch }

abbrev pub to_halted : ℕ → ℕ → Real → Real
to_halted v a r = record { st = r.st; lev = r.lev; id = r.id; bw = r.bw; be = r.be; te = r.te; ib = r.ib; fc = r.fc; halt = upd r.halt v a; mark = r.mark; ch = r.ch }

abbrev pub to_mark : ℕ → ℕ → ℕ → Real → Real
to_mark v k c r = record { st = r.st; lev = r.lev; id = r.id; bw = r.bw; be = r.be; te = r.te; ib = r.ib; fc = r.fc; halt = r.halt; mark = upd2 r.mark v k c; ch = r.ch }

-- the channels become c
abbrev pub to_chans : (ℕ → ℕ → List Msg) → Real → Real
to_chans c r = record { st = r.st; lev = r.lev; id = r.id; bw = r.bw; be = r.be; te = r.te; ib = r.ib; fc = r.fc; halt = r.halt; mark = r.mark; ch = c }

-- v sends m over k
abbrev pub to_send : ℕ → ℕ → Msg → Real → Real
to_send v k m r = to_chans (upd2 r.ch v k (r.ch v k ++ (m ∷ []))) r

-- the channel from u over k becomes l
abbrev pub to_pop : ℕ → ℕ → List Msg → Real → Real
to_pop u k l r = to_chans (upd2 r.ch u k l) r

-- the values of n but test edge, find-count and halted, which an Initiate leaves alone
abbrev pub to_told : ℕ → Node → Real → Real
to_told v n r = record { st = upd r.st v n.status; lev = upd r.lev v n.level; id = upd r.id v n.identity; bw = upd r.bw v n.weight; be = upd r.be v n.best; te = r.te; ib = upd r.ib v n.branch; fc = r.fc; halt = r.halt; mark = r.mark; ch = r.ch }

-- the values of n but halted, which waking leaves alone (the tables have no waking edge)
abbrev pub to_woken : ℕ → Node → Real → Real
to_woken v n r = to_count v n.count (to_test v n.test (to_told v n r))

-- ---- tables

upd-upd : {A : Type 0} (f : ℕ → A) (v : ℕ) (a b : A) → upd (upd f v a) v b ≡ upd f v b
upd-upd f v a b = fun_ext (λ w. upd-elim (λ x. x ≡ upd f v b w) (upd f v a) v b w (λ e. sym (ap (upd f v b) (sym e) ∙ upd_same f v b)) (λ n. upd_other f v a w n ∙ sym (upd_other f v b w n)))

pub upd-own : {A : Type 0} (f : ℕ → A) (v : ℕ) → upd f v (f v) ≡ f
upd-own f v = fun_ext (λ w. upd-elim (λ x. x ≡ f w) f v (f v) w (λ e. ap f e) (λ n. refl))

upd-swap : {A : Type 0} (f : ℕ → A) (u v : ℕ) (a b : A) → u ≢ v → upd (upd f v b) u a ≡ upd (upd f u a) v b
upd-swap f u v a b d = fun_ext (λ w. upd-elim (λ x. x ≡ upd (upd f u a) v b w) (upd f v b) u a w
    (λ e. sym (upd_other (upd f u a) v b w (λ q. d (e ∙ sym q)) ∙ (ap (upd f u a) (sym e) ∙ upd_same f u a)))
    (λ n. upd-elim (λ x. x ≡ upd (upd f u a) v b w) f v b w (λ e. sym (ap (upd (upd f u a) v b) (sym e) ∙ upd_same (upd f u a) v b))
    (λ m. sym (upd_other (upd f u a) v b w m ∙ upd_other f u a w n))))

-- a row of a table is changed
row-upd : {A : Type 0} (f : ℕ → ℕ → A) (v k : ℕ) (g : ℕ → A) (a : A) → upd2 (upd f v g) v k a ≡ upd f v (upd g k a)
unfolding upd2
row-upd f v k g a = upd-upd f v g (upd (upd f v g v) k a) ∙ ap (λ x. upd f v (upd x k a)) (upd_same f v g)

row-swap : {A : Type 0} (f : ℕ → ℕ → A) (u v k j : ℕ) (a b : A) → u ≢ v → upd2 (upd2 f v j b) u k a ≡ upd2 (upd2 f u k a) v j b
unfolding upd2
row-swap f u v k j a b d = ap (λ x. upd (upd f v (upd (f v) j b)) u (upd x k a)) (upd_other f v (upd (f v) j b) u (λ q. d (sym q)))
    ∙ (upd-swap f u v (upd (f u) k a) (upd (f v) j b) d
    ∙ ap (λ x. upd (upd f u (upd (f u) k a)) v (upd x j b)) (sym (upd_other f u (upd (f u) k a) v d)))

-- ---- messages sent

module _ (c : ℕ → ℕ → List Msg) (v : ℕ) where
  pub post-nil : post c v [] ≡ c
  unfolding post
  post-nil = refl

pub post-app : (c : ℕ → ℕ → List Msg) (v : ℕ) (a b : List Send) → post c v (a ++ b) ≡ post (post c v a) v b
unfolding post
post-app c v [] b = refl
post-app c v (x ∷ a) b = post-app (upd2 c v x.edge (c v x.edge ++ (x.msg ∷ []))) v a b

pub post-one : (c : ℕ → ℕ → List Msg) (v k : ℕ) (m : Msg) → post c v (record { edge = k; msg = m } ∷ []) ≡ upd2 c v k (c v k ++ (m ∷ []))
unfolding post
post-one c v k m = refl

-- another node's channel, before or after
pub post-pop : (c : ℕ → ℕ → List Msg) (u v k : ℕ) (l : List Msg) (a : List Send) → u ≢ v → upd2 (post c v a) u k l ≡ post (upd2 c u k l) v a
unfolding post
post-pop c u v k l [] d = refl
post-pop c u v k l (x ∷ a) d = post-pop (upd2 c v x.edge (c v x.edge ++ (x.msg ∷ []))) u v k l a d ∙ ap (λ y. post y v a)
    (row-swap c u v k x.edge l (c v x.edge ++ (x.msg ∷ [])) d ∙ ap (λ y. upd2 (upd2 c u k l) v x.edge (y ++ (x.msg ∷ []))) (sym (else-row x.edge)))
  where
    else-row : (j : ℕ) → upd2 c u k l v j ≡ c v j
    else-row j = upd2-elim (λ y. y ≡ c v j) c u k l v j (λ p q. absurd (d p)) (λ n. refl)

-- and it is not read
pub post-else : (c : ℕ → ℕ → List Msg) (u v k : ℕ) (a : List Send) → u ≢ v → post c v a u k ≡ c u k
unfolding post
post-else c u v k [] d = refl
post-else c u v k (x ∷ a) d = post-else (upd2 c v x.edge (c v x.edge ++ (x.msg ∷ []))) u v k a d
    ∙ upd2-elim (λ y. y ≡ c u k) c v x.edge (c v x.edge ++ (x.msg ∷ [])) u k (λ p q. absurd (d (sym p))) (λ n. refl)

-- ---- laws of `place_in`

module _ (r : Real) (v : ℕ) (w : Work) where
  pub place-status : (a : ℕ) → to_status v a (place_in r v w) ≡ place_in r v (with_node (set_status a w.node) w)
  place-status a = simp upd-upd

  pub place-best : (e x : ℕ) → to_best v e x (place_in r v w) ≡ place_in r v (with_node (set_best e x w.node) w)
  place-best e x = simp upd-upd

  pub place-test : (a : ℕ) → to_test v a (place_in r v w) ≡ place_in r v (with_node (set_test a w.node) w)
  place-test a = simp upd-upd

  pub place-count : (a : ℕ) → to_count v a (place_in r v w) ≡ place_in r v (with_node (set_count a w.node) w)
  place-count a = simp upd-upd

  pub place-halted : (a : ℕ) → to_halted v a (place_in r v w) ≡ place_in r v (with_node (set_halted a w.node) w)
  place-halted a = simp upd-upd

  pub place-mark : (k c : ℕ) → to_mark v k c (place_in r v w) ≡ place_in r v (set_mark k c w)
  place-mark k c = simp row-upd

  pub place-woken : (j : ℕ) → to_woken v (woken j w.node) (place_in r v w) ≡ place_in r v (with_node (woken j w.node) w)
  place-woken j = simp upd-upd

  pub place-told : (l f x k : ℕ) → to_told v (informed l f x k w.node) (place_in r v w) ≡ place_in r v (with_node (informed l f x k w.node) w)
  place-told l f x k = simp upd-upd

  pub place-send : (k : ℕ) (m : Msg) → to_send v k m (place_in r v w) ≡ place_in r v (send k m w)
  place-send k m = ap (λ c. to_chans c (place_in r v w)) (sym (post-app r.ch v w.sends (record { edge = k; msg = m } ∷ []) ∙ post-one (post r.ch v w.sends) v k m))

  pub place-copied : (cs : List Send) → to_chans (post (post r.ch v w.sends) v cs) (place_in r v w) ≡ place_in r v (copied cs w)
  place-copied cs = ap (λ c. to_chans c (place_in r v w)) (sym (post-app r.ch v w.sends cs))

  -- another node's channel
  pub place-pop : (u k : ℕ) (l : List Msg) → u ≢ v → to_pop u k l (place_in r v w) ≡ place_in (to_pop u k l r) v w
  place-pop u k l d = ap (λ c. to_chans c (place_in r v w)) (post-pop r.ch u v k l w.sends d)

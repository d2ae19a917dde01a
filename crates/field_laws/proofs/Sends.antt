-- All sends of a response at once, in the words (`posted-carry`, `length-posted`) and in the channels (`post-chan`).
use Rattle.std.specs.Prelude.{ℕ, suc, ◌<◌, ◌≡◌, ◌≢◌, true, false, length, eqb}
use Rattle.std.proofs.Common.{arith, ap₂, ◌∙◌}
use Rattle.std.proofs.Math.Path.{refl, sym, ap}
use Rattle.std.proofs.Math.Bool.{cond}
use mathlib.Core.List.{List, [], ◌∷◌, ◌++◌, append_assoc, append-nil, map}
use Rattle.base.proofs.laws.Cond.{eqb-cases, eqb_same, eqb-diff}
use Rattle.base.specs.Limits.{max_links}
use Rattle.base.specs.Pool.{All, nil, con}
use Rattle.format_message.specs.Msg.{Msg}
use Rattle.format_message.specs.Header.{header_of, carried_of}
use Rattle.format_message.specs.Listed.{Listed}
use Rattle.format_message.proofs.laws.Means.{in-bits, header-lt}
use Rattle.format_word.specs.Word.{Waiting, link_in, handed_in}
use Rattle.format_word.proofs.laws.Word.{Unpacked, unpacked, waiting-back}
use Rattle.plan.specs.Links.{Plan}
use Rattle.field.proofs.laws.Edges.{end-small}
use Rattle.node.specs.Work.{Send}
use Rattle.field.specs.Edges.{is_own, from, end_of}
use Rattle.field.specs.State.{msg_in, word_of, posted}
use Rattle.field_calls.specs.Trail.{Message, sent_by, carried_by}
use Rattle.field_laws.proofs.Chan.{chan, chan-skip, chan-down}
use Rattle.field_laws.proofs.Places.{from-over}

-- a send that a word can hold
pub record Packs (x : Send) : Type 0 where
  pub listed : Listed x.msg
  pub small : x.edge < max_links

pub same-message : {d e g h b c : ℕ} → d ≡ e → g ≡ h → b ≡ c → ◌≡◌ {A = Message} (record { link = d; header = g; carried = b }) (record { link = e; header = h; carried = c })
same-message i j k = cc

module _ (p : Plan) (v : ℕ) where
  -- what a send's word says
  pub record Reads (x : Send) : Type 0 where
    pub msg : msg_in (word_of p v x) ≡ x.msg
    pub link : link_in (word_of p v x) ≡ end_of p v x.edge
    pub handed : handed_in (word_of p v x) ≡ false

  pub over-16 : (x : Send) → Packs x → end_of p v x.edge < 65536
  over-16 x h = omega (arith, end-small p v x.edge h.small)

  pub send-reads : (x : Send) → Packs x → Reads x
  send-reads x h =
      let e = waiting-back x.msg (end_of p v x.edge) false h.listed (over-16 x h) in
      record { msg = ap (λ (w : Waiting). w.msg) e; link = ap (λ (w : Waiting). w.link) e; handed = ap (λ (w : Waiting). w.handed) e }

  -- the same by the word's parts
  pub word-parts : (x : Send) → Packs x → Unpacked (header_of x.msg) (carried_of x.msg) (end_of p v x.edge) 0 (word_of p v x)
  word-parts x h = unpacked _ _ _ 0 (omega (arith, header-lt x.msg h.listed)) (in-bits x.msg h.listed).carried (over-16 x h) (omega arith)

  -- so the words carry what v sends
  pub posted-carry : {l : List Send} → All Packs l → map carried_by (posted p v l) ≡ map (sent_by p v) l
  posted-carry nil = refl
  posted-carry (con {x} h t) = let u = word-parts x h in ap₂ ◌∷◌ (same-message u.link u.header u.carried) (posted-carry t)

  -- the messages of these sends that go by directed link d
  unfoldable pub onto : ℕ → List Send → List Msg
  onto d [] = []
  onto d (x ∷ l) = cond (eqb (end_of p v x.edge) d) (x.msg ∷ onto d l) (onto d l)

  pub onto-nil : (d : ℕ) → onto d [] ≡ []
  unfolding onto
  onto-nil d = refl

  pub onto-here : (j : ℕ) (m : Msg) (l : List Send) → onto (end_of p v j) (record { edge = j; msg = m } ∷ l) ≡ m ∷ onto (end_of p v j) l
  unfolding onto
  onto-here j m l = rw (eqb_same (end_of p v j))

  pub onto-else : (d : ℕ) (x : Send) (l : List Send) → end_of p v x.edge ≢ d → onto d (x ∷ l) ≡ onto d l
  unfolding onto
  onto-else d x l n = rw (eqb-diff (end_of p v x.edge) d n)

  -- nothing that v sends over its own links goes by a directed link from another module
  pub onto-away : {l : List Send} → All (λ x. is_own p v x.edge ≡ true) l → (d : ℕ) → from p d ≢ v → onto d l ≡ []
  onto-away nil d n = onto-nil d
  onto-away (con {x} {xs} h t) d n = onto-else d x xs (λ q. n (ap (from p) (sym q) ∙ from-over p v x.edge h)) ∙ onto-away t d n

  -- LAW 1 for all sends of a response: each goes to the end of its channel, in their order
  pub post-chan : (d : ℕ) (s : List ℕ) {l : List Send} → All Packs l → chan d (s ++ posted p v l) ≡ chan d s ++ onto d l
  unfolding onto
  post-chan d s nil = ap (chan d) (append-nil s) ∙ sym (append-nil (chan d s))
  post-chan d s (con {x} {xs} h t) =
      let r = send-reads x h in
      let w = word_of p v x in
      ap (chan d) (sym (append_assoc s (w ∷ []) (posted p v xs))) ∙ post-chan d (s ++ (w ∷ [])) t
      ∙ eqb-cases (end_of p v x.edge) d (λ b. chan d (s ++ (w ∷ [])) ++ onto d xs ≡ chan d s ++ cond b (x.msg ∷ onto d xs) (onto d xs))
      (λ e. ap (λ c. c ++ onto d xs) (chan-down d w (r.link ∙ e) r.handed s ∙ ap (λ m. chan d s ++ (m ∷ [])) r.msg) ∙ append_assoc (chan d s) (x.msg ∷ []) (onto d xs))
      (λ n. ap (λ c. c ++ onto d xs) (chan-skip d w (λ q. n (sym r.link ∙ q)) s))

  -- and a channel from another module stays
  pub post-away : (d : ℕ) (s : List ℕ) {l : List Send} → All Packs l → All (λ x. is_own p v x.edge ≡ true) l → from p d ≢ v → chan d (s ++ posted p v l) ≡ chan d s
  post-away d s h o n = post-chan d s h ∙ ap (λ c. chan d s ++ c) (onto-away o d n) ∙ append-nil (chan d s)

  pub length-posted : (l : List Send) → length (posted p v l) ≡ length l
  length-posted [] = refl
  length-posted (x ∷ l) = ap suc (length-posted l)

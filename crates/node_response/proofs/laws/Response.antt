-- How a response worked out by value goes on: one message more (`says_first`, `says_second`), a mark (`marks-edge`), the node (`sets-node`), one part after
-- another (`does-then`). Each response is written as its messages' kinds are (`formed`).
use Rattle.std.specs.Prelude.{ℕ, ◌≡◌, ◌≢◌, Bool, true, false, List, [], ◌∷◌, ◌++◌, Option, Some, None, IfSome}
use Rattle.std.proofs.Math.Path.{refl, ap}
use Rattle.std.proofs.Common.{sym, ◌∙◌, append-nil, append_assoc}
use Rattle.format_message.specs.declared.NodeMessage.{NodeMessage}
use Rattle.format_message.specs.NodeMessage.{as_msg}
use Rattle.node.specs.declared.Node.{Node}
use Rattle.node.specs.Work.{Send, Work, set_mark, with_node, start}
use Rattle.node_edges.specs.Own.{marked}
use Rattle.node.specs.Rules.{copied}
use Rattle.node_response.specs.declared.Packet.{Packet}
use Rattle.node_response.specs.declared.Response.{Response}
use Rattle.node_response.specs.Response.{answer_of, packet_msg, packet_for, packet_sends, copies_of, work_of, Formed, Does, Says, begun}

-- the packet that says a message says it, on its edge
pub msg-for : (to : ℕ) (m : NodeMessage) → packet_msg (packet_for to m) ≡ as_msg m
msg-for to m = refl

pub edge_for : (to : ℕ) (m : NodeMessage) → (packet_for to m).edge ≡ to
edge_for to m = refl

module _ (x : Packet) (to : ℕ) (m : NodeMessage) (e : x ≡ packet_for to m) where
  pub formed-for : packet_for x.edge x.message ≡ x
  formed-for = refl

  pub packet-sends : packet_sends (Some x) ≡ record { edge = to; msg = as_msg m } ∷ []
  packet-sends = rw e refl

pub packet-none : (x : Option Packet) → x ≡ None → packet_sends x ≡ []
packet-none x h = rw h

-- both messages of any response
pub formed : (a : Response) → Formed a
formed a = record { first = each a.first; second = each a.second }
  where
    each : (o : Option Packet) → IfSome o (λ x. packet_for x.edge x.message ≡ x)
    each None = tt
    each (Some x) = refl

-- a message behind the copies C, where first and second say F and S
module _ (C F S X : List Send) (y : Send) (p : X ≡ y ∷ []) (s : S ≡ []) where
  sends-first : F ≡ [] → C ++ (X ++ S) ≡ (C ++ (F ++ S)) ++ (y ∷ [])
  sends-first f = rw (p, s, f, append-nil)

  sends-second : C ++ (F ++ X) ≡ (C ++ (F ++ S)) ++ (y ∷ [])
  sends-second = rw (p, s, append-nil, append_assoc)

-- one message more, in the first place or in the second
module _ (m : ℕ → ℕ) (cs : List Send) (x : Packet) (a : Response) (free : a.second ≡ None) where
  pub says_first : a.first ≡ None
      → Says m cs x a (record { answer = a.answer; node = a.node; newmark = a.newmark; copies = a.copies; first = Some x; second = a.second })
  says_first h =
      record {
        does = λ to msg e. record {
          work = ap (λ l. record { answer = answer_of a.answer; node = a.node; mark = marked m a.newmark; sends = l })
              (sends-first (copies_of a.copies cs) _ _ _ _ (packet-sends x to msg e) (packet-none a.second free) (packet-none a.first h));
        };
        room = λ q. free;
      }

  pub says_second : a.first ≢ None
      → Says m cs x a (record { answer = a.answer; node = a.node; newmark = a.newmark; copies = a.copies; first = a.first; second = Some x })
  says_second h =
      record {
        does = λ to msg e. record {
          work = ap (λ l. record { answer = answer_of a.answer; node = a.node; mark = marked m a.newmark; sends = l })
              (sends-second (copies_of a.copies cs) (packet_sends a.first) _ _ _ (packet-sends x to msg e) (packet-none a.second free));
        };
        room = λ q. absurd (h q);
      }

-- another node
pub sets-node : (m : ℕ → ℕ) (cs : List Send) (a : Response) (n : Node)
    → Does m cs (with_node n) a (record { answer = a.answer; node = n; newmark = a.newmark; copies = a.copies; first = a.first; second = a.second })
sets-node m cs a n = record { work = refl }

-- the mark of a response
module _ (m : ℕ → ℕ) (cs : List Send) (a : Response) (k c : ℕ) where
  pub marks-edge : a.newmark ≡ None
      → Does m cs (set_mark k c) a (record { answer = a.answer; node = a.node; newmark = Some (record { edge = k; mark = c }); copies = a.copies; first = a.first; second = a.second })
  marks-edge h = record { work = rw h refl }

not-copied : (b : Bool) → b ≢ true → b ≡ false
not-copied true c = absurd (c refl)
not-copied false c = refl

-- the copies of an Initiate, before all else
module _ (m : ℕ → ℕ) (cs : List Send) (a : Response) where
  pub tells_all : a.copies ≢ true → a.first ≡ None → a.second ≡ None
      → Does m cs (copied cs) a (record { answer = a.answer; node = a.node; newmark = a.newmark; copies = true; first = a.first; second = a.second })
  tells_all c f s =
      let n = not-copied a.copies c in
      record {
        work = ap (λ l. record { answer = answer_of a.answer; node = a.node; mark = marked m a.newmark; sends = l })
            (rw (n, packet-none a.first f, packet-none a.second s) (append-nil cs));
      }

-- one part after another
module _ {m : ℕ → ℕ} {cs : List Send} {f g : Work → Work} {a b r : Response} where
  pub does-then : Does m cs g b r → Does m cs f a b → Does m cs (λ w. g (f w)) a r
  does-then q p = record { work = q.work ∙ ap g p.work }

-- the same part, told otherwise
module _ {m : ℕ → ℕ} {cs : List Send} {f g : Work → Work} {a r : Response} where
  pub told-as : Does m cs f a r → f (work_of m cs a) ≡ g (work_of m cs a) → Does m cs g a r
  told-as p e = record { work = p.work ∙ e }

-- nothing was done
module _ (m : ℕ → ℕ) (cs : List Send) (a : Response) where
  pub does-nothing : (f : Work → Work) → f (work_of m cs a) ≡ work_of m cs a → Does m cs f a a
  does-nothing f e = record { work = sym e }

-- the start
module _ (m : ℕ → ℕ) (n : Node) where
  pub begun-work : (cs : List Send) → work_of m cs (begun n) ≡ start n m
  begun-work cs = refl

  pub begun-formed : Formed (begun n)
  begun-formed = formed (begun n)

-- the end: a response from its start on
module _ {m : ℕ → ℕ} {cs : List Send} {f : Work → Work} {a r : Response} {n : Node} where
  pub from-begun : a ≡ begun n → Does m cs f a r → (work_of m cs r ≡ f (start n m)) × Formed r
  from-begun e d = (d.work ∙ ap f (ap (work_of m cs) e ∙ begun-work m n cs), formed r)

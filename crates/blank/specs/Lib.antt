-- A plan with nobody in it, through every call: what request 04 claims (`BlankClaim`), and that it holds (`blank-claim`).
pub mod Claim

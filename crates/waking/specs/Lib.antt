-- Who woke whom, from setup and over every list of calls: what request 05 claims (`WhoWokeWhom`), and that it holds (`who-woke-whom`).
pub mod Claim
